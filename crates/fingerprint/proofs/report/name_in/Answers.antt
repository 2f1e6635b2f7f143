use borrow.Author.Tests.{lt-ltb, le-ltb}
use Rattle.fingerprint.specs.Code.{name_in}
use Rattle.fingerprint.proofs.report.name_in.Goals as goal

pub returns-then-body-lt5 : goal.returns-then-body-lt5
unfolding name_in
returns-then-body-lt5 c = rw (lt-ltb c.args.body.length 5 c.if-body-lt5.true)

pub returns : goal.returns
unfolding name_in
returns c = rw (le-ltb c.args.body.length 5 c.if-body-lt5.false)
