-- The loop keeps `Filled`: the groups of the numbers before place i stand in the array. Assumes nothing.
use mathlib.Core.List.{map}
use lib.ListN.{drop}
use Rattle.fingerprint_lists.specs.Arrays.{group}
use Rattle.fingerprint_lists.proofs.FillLaws.{Filled}
use Rattle.fingerprint_lists.proofs.GroupsFromWords.from.Given as goal

abbrev pub invariant-loop-i : goal.invariant-loop-i
invariant-loop-i l = Filled 64 (group 0) (map group l.number-items) l.i l.items (map group (drop l.i l.number-items))
