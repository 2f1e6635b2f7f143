use borrow.Author.Tests.{lt-ltb, le-ltb}
use Rattle.fingerprint_parameters.specs.Code.{short_of}
use Rattle.fingerprint_parameters.proofs.short_parameter.Goals as goal

pub returns-then-left-length : goal.returns-then-left-length
unfolding short_of
returns-then-left-length c = rw (lt-ltb c.args.left c.args.length (rw c.from-length.ensures at c.if-left-length.true))

pub returns : goal.returns
unfolding short_of
returns c = rw (le-ltb c.args.left c.args.length (rw c.from-length.ensures at c.if-left-length.false), c.from.ensures, c.from-length.ensures)
