-- `all_zero` asks at each place: after i turns it has asked at the first i. Assumes nothing.
use mathlib.Core.Path.{◌≡◌}
use Rattle.frames.specs.Stream.{each}
use Rattle.frames.specs.Buffers.{zero_at}
use Rattle.frames.proofs.joining.all_zero.Given as goal

abbrev pub invariant-loop-b : goal.invariant-loop-b
invariant-loop-b l = l.good ≡ each (zero_at l.block) 0 l.b-index
