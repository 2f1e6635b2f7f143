-- `reports::put_name_answer` meets its contract: two parts are written, the second after the first. Assumes nothing.
use mathlib.Core.Path.{refl}
use mathlib.Core.List.{[], ◌∷◌}
use Rattle.script_writing.proofs.AnswerLaws.{written_one, written-more}
use Rattle.reports.specs.Lines.{name_word, name_answer}
use Rattle.script_writing.specs.Names.{name_text}
use Rattle.reports.proofs.put_name_answer.Goals as goal

pub returns : goal.returns
unfolding name_answer
returns c =
    let s = c.args.name.now in
    let out = c.args.out.now in
    let first = c.put_text-n in
    let name = c.put_name in
    written-more (name_word ∷ []) (name_text s ∷ []) first.result name.result _ out first.new.out name.new.out
    (written_one name_word first.result out first.new.out first.ensures)
    refl
    (written_one (name_text s) name.result _ name.new.out name.ensures)
