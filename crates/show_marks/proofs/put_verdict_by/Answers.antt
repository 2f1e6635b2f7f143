-- `show_marks::put_verdict_by` meets its contract: one text is written after the other. Assumes nothing.
use mathlib.Core.Path.{refl}
use Rattle.script_writing.proofs.AnswerLaws.{written_one, written-more}
use Rattle.show_marks.proofs.put_verdict_by.Goals as goal

pub returns-in_default : goal.returns-in_default
returns-in_default c = rw c.in_default.is (written_one _ _ _ _ c.put_text.ensures)

pub returns : goal.returns
returns c =
    let first = c.put_number-n.ensures in
    let second = written_one _ _ _ _ c.put_text-2.ensures in
    let third = written_one _ _ _ _ c.put_digits.ensures in
    let first_two = written-more _ _ _ _ _ _ _ _ first refl second in
    rw c.in-Some.is (written-more _ _ _ _ _ _ _ _ first_two refl third)
