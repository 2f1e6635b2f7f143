-- `alike::counts::times` meets its contract: the count so far and that from the next item on make the count of all. Assumes nothing.
use Rattle.alike.proofs.CountLaws.{counts-here, counts-on, counts_end}
use native.Mathlib.Omega.{arith}
use Rattle.alike.proofs.counts.times.Goals as goal
use Rattle.alike.proofs.counts.times.Goals.{then-item-x, else-item-x}

pub loop-item-preserved : goal.loop-item-preserved
loop-item-preserved c =
    let items = c.args.items.now in
    let x = c.args.x in
    let i = c.loop-item.item-index in
    let inside = c.loop-item-test.true in
    elim c.if-item-x.branch [
      | then-item-x w ↦ omega (arith, counts-here items i inside x w.if-item-x.true)
      | else-item-x w ↦ omega (arith, counts-on items i inside x w.if-item-x.false)
    ]

pub returns : goal.returns
returns c =
    let items = c.args.items.now in
    omega (arith, counts_end items c.loop-item.item-index c.loop-item-test.false c.args.x)
