-- The head and the walk find the report, or the refusal, and the report is written. Assumes nothing.
use mathlib.Core.Path.{refl}
use Rattle.std.proofs.lemmas.Result.{err_from_is_err_and}
use Rattle.fingerprint.specs.Code.{HeadFound, Surveyed}
use Rattle.fingerprint.specs.Reader.{read}
use Rattle.fingerprint.proofs.ReportLaws.{read-refused, read_result, hello_of, found_of, readable}
use Rattle.crustdelta_c.proofs.ReportLaws.{report-refused, report-no-room, report-written}
use native.Mathlib.Omega.{arith}
use borrow.Author.Rules.{rules}
use Rattle.crustdelta_c.proofs.write_report.Goals as goal
use Rattle.crustdelta_c.proofs.write_report.Goals.{In_ok-head, In_ok-found}

head : (c : In_ok-head) → HeadFound c.args.hello.now c.in_ok-head.head
head c = rw c.in_ok-head.was at c.read_head.ensures

surveyed : (c : In_ok-found) → Surveyed c.args.hello.now c.in_ok-head.head.block c.in_ok-found.found c.survey_block.new.types c.survey_block.new.ids
surveyed c = rw c.in_ok-found.was at c.survey_block.ensures

pub returns-in_err-head : goal.returns-in_err-head
returns-in_err-head c =
    let p = err_from_is_err_and c.from_residual.result c.from_residual.ensures.1 in
    rw (p.1, p.2) (report-refused (read c.args.hello.now) c.args.out.now _ (rw c.in_err-head.was at c.read_head.ensures))

pub survey_block-requires : goal.survey_block-requires
survey_block-requires c = let f = head (goal.at.survey_block-requires c).In_ok-head in (f.inside, f.short, refl, refl)

pub returns-in_err-found : goal.returns-in_err-found
returns-in_err-found c =
    let p = err_from_is_err_and c.from_residual-in_err-found.result c.from_residual-in_err-found.ensures.1 in
    rw (p.1, p.2)
    (report-refused (read c.args.hello.now) c.args.out.now _
    (read-refused (head (goal.at.returns-in_err-found c).In_ok-head) _ (rw c.in_err-found.was at c.survey_block.ensures)))

pub returns-then-out-lt-REPORT : goal.returns-then-out-lt-REPORT
returns-then-out-lt-REPORT c =
    let f = head (goal.at.returns-then-out-lt-REPORT c).In_ok-head in
    let s = surveyed (goal.at.returns-then-out-lt-REPORT c).In_ok-found in
    report-no-room (read c.args.hello.now) c.args.out.now (hello_of f s) (read_result f s) c.if-out-lt-REPORT.true

pub put_report-requires : goal.put_report-requires
put_report-requires c =
    let f = head (goal.at.put_report-requires c).In_ok-head in
    let s = surveyed (goal.at.put_report-requires c).In_ok-found in
    (search rules, readable f s)

pub returns : goal.returns
returns c =
    let f = head (goal.at.returns c).In_ok-head in
    let s = surveyed (goal.at.returns c).In_ok-found in
    report-written (read c.args.hello.now) c.args.out.now (hello_of f s) (read_result f s) _ (omega arith) (c.put_report.ensures.is (hello_of f s) (found_of f s))
