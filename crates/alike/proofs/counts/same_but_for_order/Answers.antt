-- `alike::counts::same_but_for_order` meets its contract: types, and then ids. Assumes nothing.
use mathlib.Core.Path.{◌≡◌, ◌∙◌}
use Rattle.wire.specs.Sums.{same_counts}
use Rattle.fingerprint.specs.InRange.{type_numbers}
use Rattle.alike.specs.Code.{same_counts_of}
use Rattle.alike.proofs.AnswerLaws.{fails, passes}
use Rattle.alike.proofs.counts.same_but_for_order.Goals as goal
use Rattle.alike.proofs.counts.same_but_for_order.Goals.{After-same_in_any_order}

types-same : (c : After-same_in_any_order) →
    let x = c.args.x.now in
    let y = c.args.y.now in
    c.same_in_any_order.result ≡ same_counts (type_numbers x.extensions x.extension_count) (type_numbers y.extensions y.extension_count)
types-same c = rw (c.extensions.ensures.0, c.extensions-2.ensures.0) at c.same_in_any_order.ensures

pub returns-then-same_in_any_order : goal.returns-then-same_in_any_order
unfolding same_counts_of
returns-then-same_in_any_order c =
    passes _ _ (types-same (goal.at.returns-then-same_in_any_order c).After-same_in_any_order) c.if-same_in_any_order.true
    (rw (c.ids.ensures.0, c.ids-then-same_in_any_order.ensures.0) at c.same_in_any_order-then-same_in_any_order.ensures)

pub returns-else-same_in_any_order : goal.returns-else-same_in_any_order
unfolding same_counts_of
returns-else-same_in_any_order c =
    c.if-same_in_any_order.false ∙ fails _ _ (types-same (goal.at.returns-else-same_in_any_order c).After-same_in_any_order) c.if-same_in_any_order.false
