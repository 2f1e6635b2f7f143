-- `show_marks::put_short` meets its contract: blanks, bytes and blanks are written one after the other. Assumes nothing.
use mathlib.Core.Path.{refl}
use Rattle.script_writing.proofs.AnswerLaws.{written_one, written-more}
use Rattle.show_marks.specs.Text.{short_parts}
use Rattle.show_marks.proofs.put_short.Goals as goal

pub returns : goal.returns
unfolding short_parts
returns c =
    let first = written_one _ _ _ _ c.put_text-n.ensures in
    let second = written_one _ _ _ _ c.put_hex.ensures in
    let third = written_one _ _ _ _ c.put_blanks.ensures in
    let first_two = written-more _ _ _ _ _ _ _ _ first refl second in
    written-more _ _ _ _ _ _ _ _ first_two refl third
