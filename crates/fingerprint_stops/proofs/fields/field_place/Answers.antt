-- `field_place` asks for the version and the random bytes. Assumes nothing.
use mathlib.Core.Path.{◌∙◌}
use Rattle.fingerprint_stops.proofs.FieldLaws.{version-cut, random-cut, random-there}
use Rattle.fingerprint_stops.proofs.fields.field_place.Goals as goal

pub returns-then-n-lt6 : goal.returns-then-n-lt6
returns-then-n-lt6 c = version-cut c.args.hello.now c.if-n-lt6.true

pub returns-then-n-lt38 : goal.returns-then-n-lt38
returns-then-n-lt38 c = random-cut c.args.hello.now c.if-n-lt6.false c.if-n-lt38.true

pub returns : goal.returns
returns c =
    let args = c.args in
    c.session_place.ensures ∙ random-there args.hello.now c.if-n-lt6.false c.if-n-lt38.false
