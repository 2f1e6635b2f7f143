-- `say_alike` says the verdict. Assumes nothing.
use mathlib.Core.Path.{sym, ◌∙◌}
use mathlib.Core.List.{[], ◌∷◌}
use Rattle.script_writing.proofs.AnswerLaws.{written_one}
use Rattle.answers_reader.specs.Answers.{yes_word, no_word}
use Rattle.answers.proofs.AnswerLaws.{says-result}
use Rattle.answers_reader.proofs.say_alike.Goals as goal

pub returns-then-alike : goal.returns-then-alike
returns-then-alike c =
    let args = c.args in
    let put = c.put_text in
    let verdict = sym c.alike.ensures ∙ c.if-alike.true in
    rw verdict
    (says-result (yes_word ∷ []) put.result args.out.now put.new.out
    (written_one yes_word put.result args.out.now put.new.out put.ensures))

pub returns-else-alike : goal.returns-else-alike
returns-else-alike c =
    let args = c.args in
    let put = c.put_text-else-alike in
    let verdict = sym c.alike.ensures ∙ c.if-alike.false in
    rw verdict
    (says-result (no_word ∷ []) put.result args.out.now put.new.out
    (written_one no_word put.result args.out.now put.new.out put.ensures))
