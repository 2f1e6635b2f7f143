-- The answer of `read` as one number, by its width. Assumes nothing.
use Rattle.std.proofs.Common.{◌≡◌, ap, ◌∙◌}
use borrow.Author.Rules.{rules}
use Rattle.wire.specs.Answer.{result, and_then, coded}
use Rattle.wire.specs.Refusals.{answer_of}
use Rattle.varint.specs.declared.Varint.{Varint}
use Rattle.compare_calls.proofs.SumLaws.{width-coded}
use Rattle.compare_calls.specs.Sums.{coded_width}
use Rattle.compare_calls.proofs.compare_varint_width.Goals as goal

pub returns : goal.returns
returns c =
    let read = c.read in
    let mapped : answer_of c.map.result ≡ and_then (answer_of read.result) (λ (x : Varint). result x.width) = search rules in
    c.coded.ensures ∙ ap coded mapped ∙ width-coded (answer_of read.result) ∙ ap coded_width read.ensures.is
