-- `say_report` writes the report, or the refusal. Assumes nothing.
use Prim.Native.Nat.{ℕ}
use mathlib.Core.Path.{◌≡◌, ap, ◌∙◌}
use mathlib.Core.List.{List}
use Rattle.wire.specs.Answer.{result, refused}
use Rattle.wire.specs.Refusals.{question}
use Rattle.wire.specs.Numbers.{Bytes}
use Rattle.fingerprint.specs.Reader.{read}
use Rattle.fingerprint.specs.Report.{report, parsed_of}
use Rattle.fingerprint.specs.declared.Fingerprint.{Fingerprint}
use Rattle.reports.specs.Lines.{report_text}
use Rattle.reports.specs.Code.{report_parts}
use Rattle.reports.proofs.ShowLaws.{parts-shown}
use Rattle.answers.proofs.AnswerLaws.{says-result}
use Rattle.fingerprint.proofs.ShownLaws.{Parsed, parsed-sane, reported, refusal_is}
use Rattle.answers_reader.proofs.say_report.Goals as goal
use Rattle.answers_reader.proofs.say_report.Goals.{In-Ok}

-- what the report says of the hello
parsed : (c : In-Ok) → Parsed c.args.hello.now c.in-Ok.report
parsed c =
    let h : List ℕ = c.args.hello.now in
    let bytes : Bytes h = λ i. (c.type_inv.hello i).fits in
    let e : result c.in-Ok.report ≡ parsed_of (read h) = rw c.in-Ok.is at c.parse_clienthello.ensures.is in
    reported h bytes c.in-Ok.report e

pub put_report-requires : goal.put_report-requires
put_report-requires c = parsed-sane c.args.hello.now c.in-Ok.report (parsed (goal.at.put_report-requires c).In-Ok)

pub returns-in-Ok : goal.returns-in-Ok
returns-in-Ok c =
    let put = c.put_report in
    let h : List ℕ = c.args.hello.now in
    let r = parsed (goal.at.returns-in-Ok c).In-Ok in
    let text : report_parts h c.in-Ok.report ≡ report_text (report r.value) =
    ap (λ (f : Fingerprint). report_parts h f) r.shows ∙ parts-shown h (report r.value) r.in-range in
    rw r.accepted (says-result (report_text (report r.value)) put.result c.args.out.now put.new.out (rw text at put.ensures))

pub returns-in-Err : goal.returns-in-Err
returns-in-Err c =
    let h : List ℕ = c.args.hello.now in
    let k = question c.in-Err.refusal in
    let e : refused k ≡ parsed_of (read h) = rw c.in-Err.is at c.parse_clienthello.ensures.is in
    rw (refusal_is h k e) c.refuse.ensures
