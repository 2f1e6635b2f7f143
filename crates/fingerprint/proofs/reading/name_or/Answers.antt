use mathlib.Core.Path.{◌≡◌, sym, ap, ◌∙◌}
use Rattle.fingerprint_bodies.specs.Body.{name}
use Rattle.std.specs.Prelude as std
use Rattle.fingerprint_lists.specs.declared.Span.{Span}
use Rattle.fingerprint.specs.Code.{note_of, name_in}
use Rattle.fingerprint.proofs.ReportLaws.{name-refused, name-default, name-result, name-inside}
use native.Mathlib.Omega.{arith}
use Rattle.fingerprint.proofs.reading.name_or.Goals as goal
use Rattle.fingerprint.proofs.reading.name_or.Goals.{After-name_in}

name_is : (c : After-name_in) {r : std.Option Span} → c.name_in.result ≡ r → name_in (note_of c.in-Ok.found name) ≡ r
name_is c e = ap name_in (sym c.body.ensures) ∙ sym c.name_in.ensures ∙ e

pub returns-in_default : goal.returns-in_default
returns-in_default c = name-refused c.in_default.ensures c.args.default.now

pub name_in-requires : goal.name_in-requires
name_in-requires c = rw c.body.ensures (omega (arith, (c.in-Ok.ensures.1.notes name).inside, c.in-Ok.ensures.0.short))

pub part-requires : goal.part-requires
part-requires c = name-inside c.in-Ok.ensures.0 c.in-Ok.ensures.1 c.in-Some.name (name_is (goal.at.part-requires c).After-name_in c.in-Some.is)

pub returns-in-Some : goal.returns-in-Some
returns-in-Some c =
    c.part.ensures ∙ name-result c.in-Ok.ensures.0 c.in-Ok.ensures.1 c.args.default.now c.in-Some.name (name_is (goal.at.returns-in-Some c).After-name_in c.in-Some.is)

pub returns-in-None : goal.returns-in-None
returns-in-None c = name-default c.in-Ok.ensures.0 c.in-Ok.ensures.1 c.args.default.now (name_is (goal.at.returns-in-None c).After-name_in c.in-None.is)
