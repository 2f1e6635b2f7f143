-- `agrees` asks at each place of the piece: after i turns it has asked at the first i. Assumes nothing.
use mathlib.Core.Path.{◌≡◌}
use Rattle.frames.specs.Stream.{each}
use Rattle.frames.specs.Buffers.{agrees_at}
use Rattle.frames.proofs.joining.agrees.Given as goal

abbrev pub invariant-loop-i : goal.invariant-loop-i
invariant-loop-i l = l.good ≡ each (agrees_at l.piece l.out l.marks) 0 l.i
