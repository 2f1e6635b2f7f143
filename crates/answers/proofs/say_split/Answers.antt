-- `say_split` says what the splitter's two calls answer, and hands back the record. Assumes nothing.
use mathlib.Core.Path.{◌≡◌}
use mathlib.Core.List.{[], ◌∷◌}
use Rattle.wire.specs.Answer.{result, refused}
use Rattle.wire.specs.Refusals.{question}
use Rattle.records.specs.Records.{record-to, end, record_at}
use Rattle.script.specs.Scan.{space}
use Rattle.script_writing.specs.Decimal.{decimal_text}
use Rattle.script_writing.specs.Shown.{shown_text}
use Rattle.script_writing.proofs.AnswerLaws.{written_one}
use Rattle.answers.specs.Answers.{record_word, next_word, end_word}
use Rattle.answers.proofs.AnswerLaws.{hands-nothing, refused-hands, hands-back}
use Rattle.answers.proofs.say_split.Goals as goal

pub returns-in-Ok-Some : goal.returns-in-Ok-Some
returns-in-Ok-Some c =
    let next-record = c.next_record in
    let args = c.args in
    let part = c.split_records-part in
    let put = c.put_all-n in
    let kept = c.put_text in
    let n = c.in-Ok-Some.after in
    let e : result (record-to n) ≡ record_at args.blob.now args.place = rw (c.in-Ok-Some.is, c.in-Ok-Some.field-0-is) at next-record.ensures.is in
    rw (← e, ← part.ensures) (hands-back (record_word ∷ shown_text part.result.now ∷ (space ∷ next_word) ∷ decimal_text n ∷ []) put.result args.out.now put.new.out put.ensures args.last.now part.result.now kept.result kept.new.out kept.ensures)

pub returns-in-Ok-None : goal.returns-in-Ok-None
returns-in-Ok-None c =
    let next-record = c.next_record in
    let args = c.args in
    let put = c.put_text-in-Ok-None in
    let e : result end ≡ record_at args.blob.now args.place = rw (c.in-Ok-None.is, c.in-Ok-None.field-0-is) at next-record.ensures.is in
    rw (← e) (hands-nothing (end_word ∷ []) put.result args.out.now put.new.out (written_one end_word put.result args.out.now put.new.out put.ensures) args.last.now)

pub returns-in-Err : goal.returns-in-Err
returns-in-Err c =
    let args = c.args in
    let e : refused (question c.in-Err.refusal) ≡ record_at args.blob.now args.place = rw c.in-Err.is at c.next_record.ensures.is in
    rw (← e) (refused-hands _ _ c.refuse.result args.out.now c.refuse.new.out args.last.now c.refuse.ensures)
