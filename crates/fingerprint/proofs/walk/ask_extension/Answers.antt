-- `ask_extension` asks the questions in the order of `ask_body`. Assumes nothing.
use mathlib.Core.Path.{◌≡◌, sym, ◌∙◌, subst}
use Prim.Native.Nat.{◌-◌}
use mathlib.Core.Bool.{false}
use lib.ListN.{take, drop}
use native.Mathlib.Omega.{arith}
use Rattle.std.proofs.lemmas.Result.{err_from_is_err_and}
use Rattle.wire.specs.Sums.{member}
use Rattle.fingerprint_bodies.specs.Body.{Kind, kind}
use Rattle.fingerprint.specs.Code.{BodyAsked}
use Rattle.fingerprint.proofs.StepLaws.{step-known, step-bad, step-full, step-found, question-some}
use Rattle.fingerprint.proofs.walk.ask_extension.Goals as goal
use Rattle.fingerprint.proofs.walk.ask_extension.Goals.{After-ask_body, Else-has}

new : (c : Else-has) → member c.args.header.ext_type c.args.known.types.now ≡ false
new c = sym c.has.ensures ∙ c.if-has.false

-- the kind is the type's
body-asked : (c : After-ask_body) →
    let e = c.args.header in
    BodyAsked (kind e.ext_type) (take (e.end - e.start) (drop e.start c.args.hello.now)) c.ask_body.result c.args.ids.now c.ask_body.new.ids
body-asked c =
    let e = c.args.header in
    subst (λ (k : Kind). BodyAsked k (take (e.end - e.start) (drop e.start c.args.hello.now)) c.ask_body.result c.args.ids.now c.ask_body.new.ids)
    c.from-kind.ensures c.ask_body.ensures

pub returns-then-has : goal.returns-then-has
returns-then-has c = step-known c.requires.0 c.args.known.types.now (sym c.has.ensures ∙ c.if-has.true)

pub slice_bounds-ask_body-count : goal.slice_bounds-ask_body-count
slice_bounds-ask_body-count c = c.requires.0.forward

pub slice_bounds-ask_body-start : goal.slice_bounds-ask_body-start
slice_bounds-ask_body-start c = c.requires.0.forward

pub slice_bounds-ask_body-end : goal.slice_bounds-ask_body-end
slice_bounds-ask_body-end c = c.requires.0.inside

pub returns-in_err-new_ids : goal.returns-in_err-new_ids
returns-in_err-new_ids c =
    let asked = rw c.in_err-new_ids.was at (body-asked (goal.at.returns-in_err-new_ids c).After-ask_body).is in
    let p = err_from_is_err_and c.from_residual.result c.from_residual.ensures.1 in
    rw (p.1, p.2) (step-bad c.requires.0 c.args.known.types.now (new (goal.at.returns-in_err-new_ids c).Else-has) _ asked (question-some c.in_err-new_ids.field-0.0))

pub returns-then-known-ge64 : goal.returns-then-known-ge64
returns-then-known-ge64 c =
    let asked = rw c.in_ok-new_ids.was at (body-asked (goal.at.returns-then-known-ge64 c).After-ask_body).is in
    step-full c.requires.0 c.args.known.types.now (new (goal.at.returns-then-known-ge64 c).Else-has) (sym asked) c.if-known-ge64.true

pub returns : goal.returns
returns c =
    let asked = body-asked (goal.at.returns c).After-ask_body in
    let good = rw c.in_ok-new_ids.was at asked.is in (
      step-found c.requires.0 c.args.known.types.now (new (goal.at.returns c).Else-has) (sym good) c.from-kind.ensures (omega (arith, c.if-known-ge64.false)),
      rw c.in_ok-new_ids.was at asked.gained,
    )
