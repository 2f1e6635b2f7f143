-- `show_marks::put_place` meets its contract: the place is written after the mark. Assumes nothing.
use mathlib.Core.Path.{refl}
use Rattle.script_writing.proofs.AnswerLaws.{written_one, written-more}
use Rattle.show_marks.specs.Text.{place_parts}
use Rattle.show_marks.proofs.put_place.Goals as goal

pub returns : goal.returns
unfolding place_parts
returns c =
    let first = written_one _ _ _ _ c.put_mark-n.ensures in
    let second = written_one _ _ _ _ c.put_digits.ensures in
    written-more _ _ _ _ _ _ _ _ first refl second
