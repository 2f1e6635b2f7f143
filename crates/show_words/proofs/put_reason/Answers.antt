-- `put_reason` meets its contract: the number and the words are written one after the other. Assumes nothing.
use mathlib.Core.Path.{refl}
use mathlib.Core.List.{[]}
use Rattle.script_writing.proofs.AnswerLaws.{written_one, written-more}
use Rattle.show_words.proofs.put_reason.Goals as goal

pub returns-in-Some : goal.returns-in-Some
returns-in-Some c =
    let first = c.put_number-n.ensures in
    let second = written_one _ _ _ _ c.put_text.ensures in
    let third = c.put_phrase.ensures in
    let first_two = written-more _ _ _ _ _ _ _ _ first refl second in
    record { words = third.parts; is = written-more _ _ _ _ _ _ _ _ first_two refl third.is }

pub returns-in-None : goal.returns-in-None
returns-in-None c =
    let first = c.put_number-n.ensures in
    let second = written_one _ _ _ _ c.put_text.ensures in
    record { words = []; is = written-more _ _ _ _ _ _ _ _ first refl second }
