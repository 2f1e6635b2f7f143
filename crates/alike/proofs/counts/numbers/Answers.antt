-- The loop keeps `Filled`: the numbers of the items before the place stand in the array. Assumes nothing.
use Prim.Native.Nat.{◌+◌}
use mathlib.Core.Path.{refl, sym, ap, ◌∙◌}
use mathlib.Core.List.{◌∷◌, map}
use lib.ListN.{drop, length-map}
use Rattle.fingerprint_lists.proofs.FillLaws.{filled-start, filled_next, items-next}
use native.Mathlib.Omega.{arith}
use Rattle.alike.proofs.counts.numbers.Goals as goal

pub loop-i-init : goal.loop-i-init
loop-i-init g c = filled-start 64 0 refl

pub loop-i-preserved : goal.loop-i-preserved
loop-i-preserved g c =
    let l = c.loop-i in
    let s = c.args.items.now in
    let f = g.T.Counted.counts_as in
    let item = c.index-items-i in
    let next = items-next s l.i item.result c.loop-i-test.true ∙ ap (λ x. x ∷ drop (l.i + 1) s) (sym item.is) in
    filled_next l.invariant (ap (map f) next ∙ ap (λ n. n ∷ map f (drop (l.i + 1) s)) (sym c.counts_as.ensures))
    (omega (arith, length-map s f, c.requires))
