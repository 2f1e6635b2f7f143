-- `one_name` finds a name in its form, or each test tells why there is none. Assumes nothing.
use mathlib.Core.Path.{sym, ◌∙◌}
use Rattle.fingerprint_bodies.proofs.OneLaws.{name-short, name-empty, name-cut, name-there}
use native.Mathlib.Omega.{arith}
use borrow.Author.Rules.{rules}
use Rattle.fingerprint_bodies.proofs.one_name.Goals as goal

pub returns-then-n-lt2 : goal.returns-then-n-lt2
returns-then-n-lt2 c = name-short c.args.rest.now c.if-n-lt2.true

pub returns-then-length-eq0 : goal.returns-then-length-eq0
returns-then-length-eq0 c = name-empty c.args.rest.now (search rules) (sym c.from-length.ensures ∙ c.if-length-eq0.true)

pub returns-then-n-length : goal.returns-then-n-length
returns-then-n-length c = name-cut c.args.rest.now (search rules) (omega (arith, c.from-length.ensures, c.if-n-length.true))

pub returns : goal.returns
returns c =
    record {
      is = name-there c.args.rest.now (search rules) c.from-length.result c.from-length.ensures (search rules) (search rules);
      within = search rules;
    }
