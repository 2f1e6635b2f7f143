-- The loop keeps: the first i numbers are distinct, and each has its mark. Assumes nothing.
use mathlib.Core.Path.{◌≡◌}
use mathlib.Core.Bool.{true}
use lib.ListN.{length, take}
use Rattle.wire.specs.Sums.{distinct}
use Rattle.fingerprint_parameters.specs.Code.{Marked}
use Rattle.fingerprint_parameters.proofs.all_new.Given as goal

abbrev pub invariant-loop-i : goal.invariant-loop-i
invariant-loop-i l = (length l.marks.rests ≡ 64) × Marked l.marks.rests (take l.i l.ids) × (distinct (take l.i l.ids) ≡ true)
