-- `say_read` says what `read` answers. Assumes nothing.
use mathlib.Core.Path.{◌≡◌}
use mathlib.Core.List.{[], ◌∷◌}
use Rattle.wire.specs.Answer.{result, refused}
use Rattle.wire.specs.Refusals.{question}
use Rattle.varint.specs.Varint.{read_of}
use Rattle.script.specs.Scan.{space}
use Rattle.script_writing.specs.Decimal.{decimal_text}
use Rattle.answers.specs.Answers.{width_word, value_word}
use Rattle.answers.proofs.AnswerLaws.{says-result}
use Rattle.answers.proofs.say_read.Goals as goal

pub returns-in-Ok : goal.returns-in-Ok
returns-in-Ok c =
    let read = c.read in
    let args = c.args in
    let put = c.put_all in
    let v = c.in-Ok.x in
    let e : result v ≡ read_of args.input.now = rw c.in-Ok.is at read.ensures.is in
    rw (← e) (says-result (value_word ∷ decimal_text v.value ∷ (space ∷ width_word) ∷ decimal_text v.width ∷ []) put.result args.out.now put.new.out put.ensures)

pub returns-in-Err : goal.returns-in-Err
returns-in-Err c =
    let e : refused (question c.in-Err.refusal) ≡ read_of c.args.input.now = rw c.in-Err.is at c.read.ensures.is in
    rw (← e) c.refuse.ensures
