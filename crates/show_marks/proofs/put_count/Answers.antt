-- `show_marks::put_count` meets its contract: the length is written between brackets, and blanks after it. Assumes nothing.
use mathlib.Core.Path.{refl}
use Rattle.script_writing.proofs.AnswerLaws.{written_one, written-more}
use Rattle.show_marks.specs.Text.{count_parts}
use Rattle.show_marks.proofs.put_count.Goals as goal

pub returns : goal.returns
unfolding count_parts
returns c =
    let first = c.put_number-n.ensures in
    let second = written_one _ _ _ _ c.put_text.ensures in
    let third = written_one _ _ _ _ c.put_blanks.ensures in
    let first_two = written-more _ _ _ _ _ _ _ _ first refl second in
    let is = c.filling.ensures in
    rw (← is) (written-more _ _ _ _ _ _ _ _ first_two refl third)
