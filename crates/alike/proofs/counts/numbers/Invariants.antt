-- The loop keeps `Filled`: the numbers of the items before the place stand in the array. Assumes nothing.
use mathlib.Core.List.{map}
use lib.ListN.{drop}
use Rattle.fingerprint_lists.proofs.FillLaws.{Filled}
use Rattle.alike.proofs.counts.numbers.Given as goal

abbrev pub invariant-loop-i : goal.invariant-loop-i
invariant-loop-i g l = Filled 64 0 (map g.T.Counted.counts_as l.items) l.i l.numbers (map g.T.Counted.counts_as (drop l.i l.items))
