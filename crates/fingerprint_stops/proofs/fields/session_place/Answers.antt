-- `session_place` asks what the definition asks of the session id, and goes on after it. Assumes nothing.
use mathlib.Core.Path.{◌∙◌}
use Rattle.fingerprint_stops.proofs.FieldLaws.{session-short, session-long, session-cut, session-there}
use borrow.Author.Rules.{rules}
use Rattle.fingerprint_stops.proofs.fields.session_place.Goals as goal

pub returns-then-n-lt39 : goal.returns-then-n-lt39
returns-then-n-lt39 c = session-short c.args.hello.now c.if-n-lt39.true

pub returns-then-length-gt32 : goal.returns-then-length-gt32
returns-then-length-gt32 c =
    let args = c.args in
    session-long args.hello.now (search rules) c.from-length.result c.from-length.ensures c.if-length-gt32.true

pub returns-then-n-length : goal.returns-then-n-length
returns-then-n-length c =
    let args = c.args in
    session-cut args.hello.now (search rules) c.from-length.result c.from-length.ensures c.if-n-length.true

pub returns : goal.returns
returns c =
    let args = c.args in
    c.suites_place.ensures
    ∙ session-there args.hello.now (search rules) c.from-length.result c.from-length.ensures c.if-length-gt32.false c.if-n-length.false
