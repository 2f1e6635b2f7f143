-- `repeated_at` keeps `Repeating` from one parameter to the next. Assumes nothing.
use mathlib.Core.Path.{sym, ◌∙◌}
use native.Mathlib.Omega.{arith}
use Rattle.fingerprint_stops.proofs.RepeatLaws.{repeating-start, repeating-end, repeating-here, repeating-next}
use Rattle.fingerprint_stops.proofs.body.repeated_at.Goals as goal

pub loop-id-init : goal.loop-id-init
loop-id-init c = rw c.of-parameters.ensures (repeating-start c.args.body.now)

pub returns-then-among_first : goal.returns-then-among_first
returns-then-among_first c =
    let w = c.loop-id.invariant in
    (repeating-here w c.in-Some.ensures.steps (sym c.among_first.ensures ∙ c.if-among_first.true), omega (arith, w.place))

pub overflow_sub-at : goal.overflow_sub-at
overflow_sub-at c = omega (arith, c.loop-id.invariant.place, c.in-Some.ensures.steps.1)

pub overflow_add-k : goal.overflow_add-k
overflow_add-k c = omega (arith, c.loop-id.invariant.few, c.loop-id.invariant.place)

pub loop-id-preserved : goal.loop-id-preserved
loop-id-preserved c = repeating-next c.loop-id.invariant c.in-Some.ensures.steps (sym c.among_first.ensures ∙ c.if-among_first.false)

pub returns : goal.returns
returns c =
    let w = c.loop-id.invariant in
    (repeating-end w c.in_default.ensures.steps, omega (arith, w.place))
