use mathlib.Core.Path.{◌≡◌}
use Rattle.std.specs.Prelude.{Ok, Err}
use Rattle.std.proofs.lemmas.Result.{err_from_is_err_and}
use Rattle.wire.specs.Answer.{refused}
use Rattle.wire.specs.Refusals.{question}
use Rattle.fingerprint.specs.Reader.{read}
use Rattle.fingerprint.proofs.ReportLaws.{hello_of, found_of, readable, parsed-result, refused-result, parsed-tells}
use Rattle.fingerprint.proofs.reading.parse_clienthello.Goals as goal

pub returns-in_err-head : goal.returns-in_err-head
returns-in_err-head c =
    let h = c.args.hello.now in
    let p = err_from_is_err_and c.from_residual.result c.from_residual.ensures.1 in
    let e : read h ≡ refused (question p.0) = rw p.2 c.in_err-head.ensures in
    rw p.1 record { is = refused-result e; tells = parsed-tells (Err p.0) (read h) (refused-result e) }

pub report-requires : goal.report-requires
report-requires c = readable c.in_ok-head.ensures.0 c.in_ok-head.ensures.1

pub returns : goal.returns
returns c =
    let f = c.in_ok-head.ensures.0 in
    let s = c.in_ok-head.ensures.1 in
    let is = parsed-result f s c.report.result (c.report.ensures.is (hello_of f s) (found_of f s)) in
    record { is = is; tells = parsed-tells (Ok c.report.result) (read c.args.hello.now) is }
