-- The loop keeps `Left`: n bytes are counted, and what is still to be cut makes the others. Assumes nothing.
use Prim.Native.Nat.{◌*◌}
use mathlib.Core.Path.{◌≡◌}
use lib.ListN.{drop}
use Rattle.std.specs.Iterator.Adapters.{enumerate_source, enumerate_count}
use Rattle.std.specs.Slice.Iter.{chunks_rest, chunks_size}
use Rattle.frames.proofs.CutLaws.{Left}
use Rattle.frames.proofs.cutting.frames_length.Given as goal

abbrev pub invariant-loop-i : goal.invariant-loop-i
invariant-loop-i l =
    let i = enumerate_count l.i-iterator in
    let pieces = enumerate_source l.i-iterator in
    Left l.c l.hello i l.n × (chunks_rest pieces ≡ drop (i * l.c) l.hello) × (chunks_size pieces ≡ l.c)
