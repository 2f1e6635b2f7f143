-- The first places of the arrays are the numbers of the items. Assumes nothing.
use mathlib.Core.Path.{ap₂, ◌∙◌}
use Rattle.wire.specs.Sums.{same_counts}
use Rattle.alike.proofs.CountLaws.{first-numbers}
use Rattle.alike.proofs.counts.same_in_any_order.Goals as goal

pub returns : goal.returns
returns g c =
    let f = g.T.Counted.counts_as in
    c.same_counts.ensures ∙ ap₂ same_counts (first-numbers f c.args.x.now c.numbers.ensures) (first-numbers f c.args.y.now c.numbers-2.ensures)
