-- `step_at` tests the end, and then answers what the reader's header says. Assumes nothing.
use mathlib.Core.Path.{◌≡◌, sym}
use native.Mathlib.Omega.{arith}
use Rattle.std.specs.Prelude.{Some, None}
use Rattle.std.proofs.lemmas.Result.{err_from_is_err_and}
use Rattle.wire.specs.declared.refusals.Refusal.TheVariants as no
use Rattle.ext_walk.proofs.StepLaws.{step_end, step_cut, step-found}
use Rattle.ext_walk.proofs.step_at.Goals as goal

pub returns-then-hello-at : goal.returns-then-hello-at
returns-then-hello-at c =
    let args = c.args in
    sym (step_end args.hello.now args.at c.if-hello-at.true)

pub returns-in_err-header : goal.returns-in_err-header
returns-in_err-header c =
    let args = c.args in
    let not-there : c.read_header.result ≡ None = grind (arith, c.ok_or.ensures.value, c.in_err-header.was) in
    let p = err_from_is_err_and c.from_residual.result c.from_residual.ensures.1 in
    let cut : p.0 ≡ no.ExtensionCut = grind (arith, p.2, c.ok_or.ensures.value, c.in_err-header.was) in
    rw (p.1, cut) (sym (step_cut args.hello.now args.at c.if-hello-at.false (rw not-there at c.read_header.ensures)))

pub returns : goal.returns
returns c =
    let args = c.args in
    let e = c.in_ok-header.header in
    let there : c.read_header.result ≡ Some e = grind (arith, c.ok_or.ensures.value, c.in_ok-header.was) in
    sym (step-found args.hello.now args.at e.ext_type e.start e.end (rw there at c.read_header.ensures))
