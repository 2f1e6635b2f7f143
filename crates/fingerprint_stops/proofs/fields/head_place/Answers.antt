-- `head_place` goes by the refusal, as the definition does by its number. Assumes nothing.
use mathlib.Core.Path.{◌≡◌, sym, ap, ◌∙◌}
use native.Mathlib.Omega.{arith}
use Rattle.wire.specs.Refusals.{question}
use Rattle.wire.specs.declared.refusals.Refusal.{Refusal}
use Rattle.wire.specs.declared.refusals.Refusal.TheVariants as no
use Rattle.fingerprint_stops.specs.Stops.{head_place}
use Rattle.fingerprint_stops.proofs.FieldLaws.{field-there}
use Rattle.fingerprint_stops.proofs.fields.head_place.Goals as goal

too-long : (e : Refusal) → question e ≡ 16 → e ≡ no.HelloTooLong
too-long e q = grind (arith, q)

no_hello : (e : Refusal) → question e ≡ 17 → e ≡ no.NoClientHello
no_hello e q = grind (arith, q)

wrong-length : (e : Refusal) → question e ≡ 18 → e ≡ no.WrongLength
wrong-length e q = grind (arith, q)

pub returns-in-HelloTooLong : goal.returns-in-HelloTooLong
unfolding head_place
returns-in-HelloTooLong c = ap (λ (e : Refusal). head_place c.args.hello.now (question e)) (sym c.in-HelloTooLong.is)

pub returns-in-NoClientHello : goal.returns-in-NoClientHello
unfolding head_place
returns-in-NoClientHello c = ap (λ (e : Refusal). head_place c.args.hello.now (question e)) (sym c.in-NoClientHello.is)

pub returns-in-WrongLength : goal.returns-in-WrongLength
unfolding head_place
returns-in-WrongLength c = ap (λ (e : Refusal). head_place c.args.hello.now (question e)) (sym c.in-WrongLength.is)

pub returns-in_default : goal.returns-in_default
returns-in_default c =
    let e = c.args.refusal in
    let other = c.in_default in
    c.field_place.ensures
    ∙ field-there c.args.hello.now (question e)
    (λ q. other.not-HelloTooLong (too-long e q)) (λ q. other.not-NoClientHello (no_hello e q)) (λ q. other.not-WrongLength (wrong-length e q))
