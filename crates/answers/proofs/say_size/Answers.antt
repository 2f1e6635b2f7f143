-- `say_size` says what `size` answers: in each case the text is that of its parts. Assumes nothing.
use mathlib.Core.Path.{◌≡◌}
use mathlib.Core.List.{[], ◌∷◌}
use Rattle.wire.specs.Answer.{result, refused}
use Rattle.wire.specs.Refusals.{question}
use Rattle.varint.specs.Varint.{size_of}
use Rattle.script_writing.specs.Decimal.{decimal_text}
use Rattle.answers.specs.Answers.{width_word}
use Rattle.answers.proofs.AnswerLaws.{says-result}
use Rattle.answers.proofs.say_size.Goals as goal

pub returns-in-Ok : goal.returns-in-Ok
returns-in-Ok c =
    let size = c.size in
    let args = c.args in
    let put = c.put_number in
    let e : result c.in-Ok.width ≡ size_of args.value = rw c.in-Ok.is at size.ensures.is in
    rw (← e) (says-result (width_word ∷ decimal_text c.in-Ok.width ∷ []) put.result args.out.now put.new.out put.ensures)

pub returns-in-Err : goal.returns-in-Err
returns-in-Err c =
    let e : refused (question c.in-Err.refusal) ≡ size_of c.args.value = rw c.in-Err.is at c.size.ensures.is in
    rw (← e) c.refuse.ensures
