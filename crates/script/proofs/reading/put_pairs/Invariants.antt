-- `put_pairs` meets its contract: the bytes of the pairs passed stand at the front of the output, and the other pairs are left. Assumes nothing.
use Rattle.std.proofs.Common.{◌≡◌, ◌*◌, take, drop}
use Rattle.std.specs.Iterator.Adapters.{enumerate_source, enumerate_count}
use Rattle.std.specs.Slice.Iter.{chunks_exact_rest, chunks_exact_size}
use Rattle.wire.specs.Front.{front}
use Rattle.script.specs.Hex.{pairs}
use Rattle.script.proofs.reading.put_pairs.Given as goal

abbrev pub invariant-loop-i : goal.invariant-loop-i
invariant-loop-i l =
    let n = enumerate_count l.i-iterator in
    let chunks = enumerate_source l.i-iterator in
    (l.out ≡ front (take n (pairs l.text)) l.initial.out) × (chunks_exact_rest chunks ≡ drop (2 * n) l.text) × (chunks_exact_size chunks ≡ 2)
