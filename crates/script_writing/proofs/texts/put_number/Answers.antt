-- `put_number` writes two parts, the second to the part of the output after the first. Assumes nothing.
use mathlib.Core.Path.{refl}
use mathlib.Core.List.{[], ◌∷◌}
use Rattle.script_writing.specs.Decimal.{decimal_text}
use Rattle.script_writing.proofs.AnswerLaws.{written_one, written-more}
use Rattle.script_writing.proofs.texts.put_number.Goals as goal

pub returns : goal.returns
returns c =
    let a = c.args in
    let put-text = c.put_text-n in
    let put-decimal = c.put_decimal in
    written-more (a.words.now ∷ []) (decimal_text a.number ∷ []) put-text.result put-decimal.result _ a.out.now put-text.new.out put-decimal.new.out
    (written_one a.words.now put-text.result a.out.now put-text.new.out put-text.ensures)
    refl
    (written_one (decimal_text a.number) put-decimal.result _ put-decimal.new.out put-decimal.ensures)
