-- `all_marked` asks at each place: after i turns it has asked at the first i. Assumes nothing.
use mathlib.Core.Path.{◌≡◌}
use Rattle.frames.specs.Stream.{each}
use Rattle.frames.specs.Buffers.{marked_at}
use Rattle.frames.proofs.joining.all_marked.Given as goal

abbrev pub invariant-loop-mark : goal.invariant-loop-mark
invariant-loop-mark l = l.good ≡ each (marked_at l.marks) 0 l.mark-index
