-- The loop keeps `Standing`: the numbers before the item stand in the output. Assumes nothing.
use Prim.Native.Nat.{◌*◌}
use lib.ListN.{drop}
use Rattle.fingerprint_layout.specs.Layout.{little}
use Rattle.fingerprint_layout.proofs.PieceLaws.{Standing}
use Rattle.fingerprint_layout.proofs.numbers.put_numbers.Given as goal

abbrev pub invariant-loop-i : goal.invariant-loop-i
invariant-loop-i g l =
    Standing (λ x. little g.T.Little.WIDTH (g.T.Little.value x)) g.T.Little.WIDTH l.items (drop l.i l.items) l.initial.out l.out l.i (g.T.Little.WIDTH * l.i)
