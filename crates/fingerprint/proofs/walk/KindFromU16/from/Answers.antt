-- `from` goes by the type, as `kind` does. Assumes nothing.
use mathlib.Core.Path.{sym, ap}
use Rattle.std.proofs.Common.{rules}
use Rattle.fingerprint_bodies.specs.Body.{kind}
use Rattle.fingerprint.proofs.KindLaws.{kind-other}
use Rattle.fingerprint.proofs.walk.KindFromU16.from.Goals as goal

pub returns-in-0 : goal.returns-in-0
unfolding kind
returns-in-0 c = ap kind (sym c.in-0.is)

pub returns-in-10 : goal.returns-in-10
unfolding kind
returns-in-10 c = ap kind (sym c.in-10.is)

pub returns-in-13 : goal.returns-in-13
unfolding kind
returns-in-13 c = ap kind (sym c.in-13.is)

pub returns-in-16 : goal.returns-in-16
unfolding kind
returns-in-16 c = ap kind (sym c.in-16.is)

pub returns-in-43 : goal.returns-in-43
unfolding kind
returns-in-43 c = ap kind (sym c.in-43.is)

pub returns-in-51 : goal.returns-in-51
unfolding kind
returns-in-51 c = ap kind (sym c.in-51.is)

pub returns-in-57 : goal.returns-in-57
unfolding kind
returns-in-57 c = ap kind (sym c.in-57.is)

pub returns-in_default : goal.returns-in_default
returns-in_default c =
    sym (kind-other c.args.t (search rules) (search rules) (search rules) (search rules) (search rules) (search rules) (search rules))
