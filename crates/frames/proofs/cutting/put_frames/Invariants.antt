-- The loop keeps `Left`, and `Writing`: the first n bytes of all frames stand in the output. Assumes nothing.
use Prim.Native.Nat.{◌*◌}
use mathlib.Core.Path.{◌≡◌}
use lib.ListN.{drop}
use Rattle.std.specs.Iterator.Adapters.{enumerate_source, enumerate_count}
use Rattle.std.specs.Slice.Iter.{chunks_rest, chunks_size}
use Rattle.frames.specs.Cut.{frames_of}
use Rattle.wire.proofs.Writing.{Writing}
use Rattle.frames.proofs.CutLaws.{Left}
use Rattle.frames.proofs.cutting.put_frames.Given as goal

abbrev pub invariant-loop-i : goal.invariant-loop-i
invariant-loop-i l =
    let i = enumerate_count l.i-iterator in
    let pieces = enumerate_source l.i-iterator in
    Left l.c l.hello i l.n × Writing (frames_of l.c l.hello) (drop l.n (frames_of l.c l.hello)) l.initial.out l.out l.n
    × (chunks_rest pieces ≡ drop (i * l.c) l.hello) × (chunks_size pieces ≡ l.c)
