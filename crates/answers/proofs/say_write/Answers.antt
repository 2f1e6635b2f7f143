-- `say_write` says what `write` answers, with the buffer as `write` left it. Assumes nothing.
use mathlib.Core.Path.{◌≡◌}
use mathlib.Core.List.{[], ◌∷◌}
use lib.ListN.{length}
use Rattle.wire.specs.Answer.{result, refused}
use Rattle.wire.specs.Refusals.{question}
use Rattle.varint.specs.Varint.{write_of}
use Rattle.script.specs.Scan.{space}
use Rattle.script_writing.specs.Decimal.{decimal_text}
use Rattle.script_writing.specs.Shown.{shown_text}
use Rattle.answers.specs.Answers.{width_word}
use Rattle.answers.proofs.AnswerLaws.{says-result}
use Rattle.answers.proofs.say_write.Goals as goal

pub returns-in-Ok : goal.returns-in-Ok
returns-in-Ok c =
    let args = c.args in
    let write = c.write in
    let put = c.put_all in
    let e : result c.in-Ok.width ≡ write_of args.value (length args.buffer.now) = rw c.in-Ok.is at write.ensures.is in
    rw (← e, ← write.ensures.output) (says-result (width_word ∷ decimal_text c.in-Ok.width ∷ (space ∷ []) ∷ shown_text write.new.out ∷ []) put.result args.out.now put.new.out put.ensures)

pub returns-in-Err : goal.returns-in-Err
returns-in-Err c =
    let args = c.args in
    let write = c.write in
    let e : refused (question c.in-Err.refusal) ≡ write_of args.value (length args.buffer.now) = rw c.in-Err.is at write.ensures.is in
    rw (← e, ← write.ensures.output) c.refuse_with.ensures
