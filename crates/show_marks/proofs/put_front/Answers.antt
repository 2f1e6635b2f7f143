-- `show_marks::put_front` meets its contract: the bytes are written after the place. Assumes nothing.
use mathlib.Core.Path.{refl}
use Rattle.script_writing.proofs.AnswerLaws.{written-more}
use Rattle.show_marks.proofs.put_front.Goals as goal

pub returns : goal.returns
returns c =
    let first = c.put_place-n.ensures in
    let second = c.put_run.ensures in
    written-more _ _ _ _ _ _ _ _ first refl second
