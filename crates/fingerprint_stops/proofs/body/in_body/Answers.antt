-- `in_body` goes by the body's first "no", as `in_body` does. Assumes nothing.
use Prim.Native.Nat.{ℕ, ◌+◌}
use mathlib.Core.Path.{◌≡◌, sym, ap, ◌∙◌}
use mathlib.Core.Bool.{Bool, true, false}
use borrow.Author.Tests.{eqb-true, eqb-false}
use native.Mathlib.Omega.{arith}
use Rattle.std.specs.Prelude.{◌==◌, Err}
use Rattle.wire.specs.Refusals.{question, told_number}
use Rattle.wire.specs.declared.refusals.Refusal.{Refusal}
use Rattle.wire.specs.declared.refusals.Refusal.TheVariants as no
use Rattle.fingerprint_bodies.specs.Body.{Kind, kind}
use Rattle.fingerprint_bodies.specs.Code.{asked}
use Rattle.fingerprint.specs.Code.{meant}
use Rattle.fingerprint.proofs.StepLaws.{question-some}
use Rattle.fingerprint_stops.specs.Stops.{broken, past}
use Rattle.fingerprint_stops.proofs.WalkLaws.{place-empty, place-good, place-broken, place-repeated, place-past}
use Rattle.fingerprint_stops.proofs.body.in_body.Goals as goal
use Rattle.fingerprint_stops.proofs.body.in_body.Goals.{After-ask_body}

-- the kind is the type's
same_kind : (c : After-ask_body) → meant c.from-kind.result ≡ kind c.args.t
same_kind c = c.from-kind.ensures

number_is : (c : After-ask_body) → told_number c.ask_body.result ≡ asked (kind c.args.t) c.args.body.now
number_is c = c.ask_body.ensures.is ∙ ap (λ (k : Kind). asked k c.args.body.now) (same_kind c)

malformed : (e : Refusal) → question e ≡ 21 → e ≡ no.ExtensionMalformed
malformed e q = grind (arith, q)

twice : (e : Refusal) → question e ≡ 22 → e ≡ no.ParameterTwice
twice e q = grind (arith, q)

empty : {r : Bool} {n : ℕ} → r ≡ n == 0 → r ≡ true → n ≡ 0
empty e t = eqb-true _ 0 (sym e ∙ t)

there : {r : Bool} {n : ℕ} → r ≡ n == 0 → r ≡ false → n ≡ 0 → ⊥
there e f = eqb-false _ 0 (sym e ∙ f)

refused : (asks : After-ask_body) {e : Refusal} → asks.ask_body.result ≡ Err e → question e ≡ asked (kind asks.args.t) asks.args.body.now
refused asks e = sym (ap told_number e) ∙ number_is asks

pub returns-then-is_empty : goal.returns-then-is_empty
returns-then-is_empty c = place-empty (kind c.args.t) c.args.body.now (empty c.is_empty.ensures c.if-is_empty.true)

pub returns-in_default : goal.returns-in_default
returns-in_default c =
    let args = c.args in
    place-good (kind args.t) args.body.now (sym (ap told_number c.in_default.is) ∙ number_is (goal.at.returns-in_default c).After-ask_body)

pub returns-in-ExtensionMalformed : goal.returns-in-ExtensionMalformed
returns-in-ExtensionMalformed c =
    let args = c.args in
    let asks = (goal.at.returns-in-ExtensionMalformed c).After-ask_body in
    ap (λ (n : ℕ). 4 + n) (c.broken_at.ensures.0 ∙ ap (λ (k : Kind). broken k args.body.now) (same_kind asks))
    ∙ place-broken (kind args.t) args.body.now (there c.is_empty.ensures c.if-is_empty.false)
    (ap question (sym c.in-ExtensionMalformed.is) ∙ refused asks c.in-Err.is)

pub returns-in-ParameterTwice : goal.returns-in-ParameterTwice
returns-in-ParameterTwice c =
    let args = c.args in
    let asks = (goal.at.returns-in-ParameterTwice c).After-ask_body in
    ap (λ (n : ℕ). 4 + n) c.repeated_at.ensures.0
    ∙ place-repeated (kind args.t) args.body.now (there c.is_empty.ensures c.if-is_empty.false)
    (ap question (sym c.in-ParameterTwice.is) ∙ refused asks c.in-Err.is)

pub returns-in_default-refusal : goal.returns-in_default-refusal
returns-in_default-refusal c =
    let args = c.args in
    let e = c.in-Err.refusal in
    let other = c.in_default-refusal in
    let asks = (goal.at.returns-in_default-refusal c).After-ask_body in
    ap (λ (n : ℕ). 4 + n) (c.past_count.ensures.0 ∙ ap (λ (k : Kind). past k args.body.now) (same_kind asks))
    ∙ place-past (kind args.t) args.body.now (there c.is_empty.ensures c.if-is_empty.false) (question e) (refused asks c.in-Err.is)
    (question-some e) (λ q. other.not-ExtensionMalformed (malformed e q)) (λ q. other.not-ParameterTwice (twice e q))
