-- `say_name` writes the name, and hands it back. Assumes nothing.
use Rattle.reports.specs.Lines.{name_answer}
use Rattle.answers.proofs.AnswerLaws.{hands-back}
use Rattle.answers_reader.proofs.say_name.Goals as goal

pub returns : goal.returns
returns c =
    let args = c.args in
    let name = c.name_or-name in
    let put = c.put_name_answer-n in
    let kept = c.put_text in
    rw (← name.ensures)
    (hands-back (name_answer name.result.now) put.result args.out.now put.new.out put.ensures args.last.now name.result.now
    kept.result kept.new.out kept.ensures)
