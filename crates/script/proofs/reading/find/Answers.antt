-- `find` meets its contract: past the end there is nothing to search, and else the distance is that from the place. Assumes nothing.
use Rattle.std.proofs.Common.{◌≡◌, ◌==◌, drop, sym, ◌∙◌, arith, rules, tests, length-drop}
use Rattle.std.specs.Prelude.{position}
use Rattle.std.proofs.lemmas.Iterator.{YieldsList-from_slice}
use Rattle.std.proofs.lemmas.Iterator.Search.{position_from_yields_List}
use Rattle.wire.proofs.ListLaws.{part_to_end}
use Rattle.script.proofs.ScanLaws.{position-some, position-none, found-past, found_some, found_none}
use Rattle.script.proofs.reading.find.Goals as goal
use Rattle.script.proofs.reading.find.Goals.{After-position}

-- what is searched: the bytes from the place on
searched : (c : After-position) → c.position.result ≡ position (λ x. x == c.args.byte) (drop c.args.from c.args.s.now)
searched c =
    position_from_yields_List (λ x. x == c.args.byte) _ _ c.position.result c.position.ensures.ran
    (YieldsList-from_slice (drop c.args.from c.args.s.now) (c.iter.ensures.rest ∙ part_to_end c.args.s.now c.args.from))
    (λ x b q k. search (rules, tests))

pub returns-then-s-from-clause-is : goal.returns-then-s-from-clause-is
returns-then-s-from-clause-is c = found-past c.args.s.now c.args.from c.args.byte c.if-s-from.true

pub returns-clause-is : goal.returns-clause-is
returns-clause-is c =
    let e = position-some c.args.byte (drop c.args.from c.args.s.now) c.in_ok-n.n (sym c.in_ok-n.was ∙ searched (goal.at.returns-clause-is c).After-position) in
    found_some c.args.s.now c.args.from c.args.byte c.in_ok-n.n e.0 (omega (arith, e.1, length-drop c.args.from c.args.s.now))

pub returns-in_err-n-clause-is : goal.returns-in_err-n-clause-is
returns-in_err-n-clause-is c =
    c.from_residual.ensures ∙ found_none c.args.s.now c.args.from c.args.byte (position-none c.args.byte (drop c.args.from c.args.s.now) (sym c.in_err-n.was ∙ searched (goal.at.returns-in_err-n-clause-is c).After-position))
