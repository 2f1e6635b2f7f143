-- The loop keeps `Standing`: the numbers before the item stand in the output. Assumes nothing.
use Prim.Native.Nat.{◌+◌}
use mathlib.Core.Path.{refl, sym, ap, ◌∙◌}
use mathlib.Core.List.{◌∷◌}
use native.Mathlib.Nat.{mul-zero, mul-add}
use native.Mathlib.Omega.{arith}
use lib.ListN.{drop, drop_of_length-le}
use Rattle.fingerprint_lists.proofs.FillLaws.{items-next}
use Rattle.fingerprint_layout.proofs.PieceLaws.{stand-start, stand-next, stand-end, values-are, length-little}
use Rattle.fingerprint_layout.proofs.numbers.put_numbers.Goals as goal

pub loop-i-init : goal.loop-i-init
loop-i-init g c = rw (mul-zero g.T.Little.WIDTH) (stand-start (λ x. length-little g.T.Little.WIDTH (g.T.Little.value x)) refl c.requires)

pub loop-i-preserved : goal.loop-i-preserved
loop-i-preserved g c =
    let loop = c.loop-i in
    let items = c.args.items.now in
    let item = c.index-items-i in
    let width = g.T.Little.WIDTH in
    let next =
    items-next items loop.i item.result c.loop-i-test.true
    ∙ ap (λ x. x ∷ drop (loop.i + 1) items) (sym item.is) in
    rw c.WIDTH.ensures (stand-next loop.invariant next (rw c.WIDTH.ensures at c.put.ensures) (omega (arith, mul-add width loop.i 1)))

pub returns : goal.returns
returns g c =
    let loop = c.loop-i in
    let items = c.args.items.now in
    stand-end loop.invariant (drop_of_length-le items {i = loop.i} (omega arith)) (values-are g.T.Little.WIDTH g.T.Little.value items)
