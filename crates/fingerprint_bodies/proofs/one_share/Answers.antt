-- `one_share` finds a key share in its form, or each test tells why there is none. Assumes nothing.
use mathlib.Core.Path.{◌≡◌, sym, ◌∙◌}
use lib.ListN.{take, drop}
use Rattle.wire.specs.Numbers.{number}
use Rattle.wire.proofs.ListLaws.{part_to_end}
use Rattle.fingerprint_bodies.proofs.OneLaws.{share-short, share-empty, share-cut, share-there}
use borrow.Author.Rules.{rules}
use Rattle.fingerprint_bodies.proofs.one_share.Goals as goal
use Rattle.fingerprint_bodies.proofs.one_share.Goals.{After-from-length}

count : (c : After-from-length) → number 256 (take 2 (drop 2 c.args.rest.now)) ≡ c.from-length.result
count c = sym (c.from-length.ensures ∙ rw (part_to_end c.args.rest.now 2) at c.be16.ensures)

pub returns-then-n-lt5 : goal.returns-then-n-lt5
returns-then-n-lt5 c = share-short c.args.rest.now c.if-n-lt5.true

pub returns-then-length-eq0 : goal.returns-then-length-eq0
returns-then-length-eq0 c = share-empty c.args.rest.now c.from-length.result (count (goal.at.returns-then-length-eq0 c).After-from-length) (search rules) c.if-length-eq0.true

pub returns-then-n-length : goal.returns-then-n-length
returns-then-n-length c = share-cut c.args.rest.now c.from-length.result (count (goal.at.returns-then-n-length c).After-from-length) (search rules) c.if-n-length.true

pub returns : goal.returns
returns c =
    record {
      found = _;
      is = share-there c.args.rest.now c.from-length.result (count (goal.at.returns c).After-from-length) (search rules) (search rules) (search rules);
      group-is = sym c.be16-2.ensures;
      some = search rules;
      within = search rules;
    }
