-- `has_operands` meets its contract: the first parts between the spaces are counted. Assumes nothing.
use Rattle.std.proofs.Common.{◌≡◌, ◌+◌, ◌==◌, length, take, rules, tests}
use Rattle.std.proofs.lemmas.Iterator.{YieldsList-from_take}
use Rattle.std.proofs.lemmas.Iterator.Consumers.{count_from_yields_List}
use Rattle.std.proofs.lemmas.Iterator.Splits.{YieldsList-from_slice_split}
use Rattle.script.specs.Scan.{space}
use Rattle.script.proofs.WordLaws.{parts, operands_first}
use Rattle.script.proofs.words.has_operands.Goals as goal

pub returns : goal.returns
returns c =
    let line = c.args.line.now in
    let source = c.take.ensures.source in
    let count : c.count.result ≡ length (take (c.from-words.result + 1 + 1) (parts line)) =
    count_from_yields_List c.take.result _ c.count.ensures.ran
    (YieldsList-from_take _
    (YieldsList-from_slice_split _ (λ x. x == space) line (rw source c.split.ensures.rest) (rw source c.split.ensures.done) (rw source c.split.ensures.closure) (λ x b q k. search (rules, tests)))
    c.take.ensures.count) in
    rw (count, c.from-words.ensures) (operands_first line c.args.count)
