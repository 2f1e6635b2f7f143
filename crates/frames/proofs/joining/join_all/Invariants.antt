-- The loop keeps `Laying`: the pieces placed and the frames still to be read give what all frames give. Assumes nothing.
use Prim.Native.Nat.{◌-◌}
use lib.ListN.{length}
use Rattle.frames.proofs.JoinLaws.{Laying}
use Rattle.frames.proofs.joining.join_all.Given as goal

abbrev pub invariant-loop-at : goal.invariant-loop-at
invariant-loop-at l = Laying l.frames l.initial.out l.initial.marks l.out l.marks l.at l.end

abbrev pub decreases-loop-at : goal.decreases-loop-at
decreases-loop-at l = length l.frames - l.at
