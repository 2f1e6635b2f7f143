-- `find_word` keeps `Passing`: where the present word begins, and that the word asked for is as many words on. Assumes nothing.
use Rattle.std.proofs.Common.{◌≡◌, ℕ, length, sym, ap, ◌∙◌}
use Rattle.std.specs.Prelude.{Option}
use Rattle.std.specs.Option.{unwrap_or}
use Rattle.script.specs.Scan.{space, find_of}
use Rattle.script.proofs.ScanLaws.{find-or}
use Rattle.script.proofs.WordLaws.{starts, misses, goes_on, stands}
use Rattle.script.proofs.words.find_word.Goals as goal

pub loop-init : goal.loop-init
loop-init c = starts c.args.line.now c.args.k

pub returns-in_err-start-clause-is : goal.returns-in_err-start-clause-is
returns-in_err-start-clause-is c =
    c.from_residual.ensures ∙ misses c.args.line.now c.args.k c.loop.counter c.loop.start c.loop.invariant c.loop-test.true (sym c.in_err-start.was ∙ c.find.ensures.is)

pub loop-preserved : goal.loop-preserved
loop-preserved c =
    goes_on c.args.line.now c.args.k c.loop.counter c.loop.start c.loop.invariant c.in_ok-start.field-0 c.loop-test.true (sym c.in_ok-start.was ∙ c.find.ensures.is)

pub returns-clause-is : goal.returns-clause-is
returns-clause-is c =
    let line = c.args.line.now in
    let end : c.unwrap_or-end.result ≡ find_of line c.loop.start space =
    c.unwrap_or-end.ensures ∙ ap (λ (r : Option ℕ). unwrap_or r (length line)) c.find-2.ensures.is ∙ find-or line c.loop.start space c.loop.invariant.inside in
    stands line c.args.k c.loop.counter c.loop.start c.loop.invariant c.unwrap_or-end.result c.loop-test.false end
