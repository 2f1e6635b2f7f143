-- `survey_block` keeps the state `Walking` from one extension to the next. Assumes nothing.
use Prim.Native.Nat.{◌<◌}
use mathlib.Core.Path.{refl, ◌∙◌}
use lib.ListN.{length, take}
use Rattle.std.specs.Prelude.{Ok}
use Rattle.std.proofs.lemmas.Result.{err_from_is_err_and}
use Rattle.fingerprint.specs.Code.{HeaderFound, StepAs}
use Rattle.fingerprint.proofs.IdLaws.{few-gained, few-found}
use Rattle.fingerprint.proofs.StepLaws.{own-place, step_cut}
use Rattle.fingerprint.proofs.WalkLaws.{walking_start, walking-next, walking-stop, walking-end, types-marked}
use native.Mathlib.Omega.{arith}
use Rattle.fingerprint.proofs.walk.survey_block.Goals as goal
use Rattle.fingerprint.proofs.walk.survey_block.Goals.{In-Some, In_ok-step}

pub loop-header-init : goal.loop-header-init
loop-header-init c =
    let args = c.args in
    let pre = c.requires in
    record {
      same = c.of-headers.ensures.0;
      walking = rw (pre.2, pre.3, c.of-headers.ensures.1) (walking_start args.hello.now args.block pre.0);
    }

pub invariant_of-known : goal.invariant_of-known
invariant_of-known c = record { marked = types-marked c.loop-header.invariant.walking }

header : (c : In-Some) →
    let e = c.in-Some.header in
    HeaderFound c.args.hello.now c.loop-header.headers.at e.ext_type e.start e.end
header c = rw c.loop-header.invariant.same at c.in-Some.ensures.steps.1.0

here : (c : In-Some) → c.loop-header.headers.at < length c.args.hello.now
here c = let f = header c in omega (arith, f.after-header, f.forward, f.inside)

found : (c : In_ok-step) →
    let l = c.loop-header in
    StepAs (Ok c.in_ok-step.step) c.args.hello.now c.in-Some.header (take l.count l.types) l.ids c.ask_extension.new.ids
found c = rw c.in_ok-step.was at c.ask_extension.ensures

pub overflow_add-id_count : goal.overflow_add-id_count
overflow_add-id_count c =
    let w = c.loop-header.invariant.walking in
    omega (arith, few-gained (found (goal.at.overflow_add-id_count c).In_ok-step).1, few-found w.ids-are w.ids-long)

pub loop-header-preserved : goal.loop-header-preserved
loop-header-preserved c =
    let w = c.loop-header.invariant in
    let given = c.in-Some.ensures.steps in
    let i = (goal.at.loop-header-preserved c).In-Some in
    let s = found (goal.at.loop-header-preserved c).In_ok-step in
    record {
      same = given.0 ∙ w.same;
      walking =
          rw (given.1.1, c.add.ensures, c.from.ensures)
          (walking-next w.walking refl c.slot.ensures (λ i. (c.type_inv.hello i).fits) (here i) (rw (own-place (header i)) at s.0) s.1);
    }

pub returns-in_err-step : goal.returns-in_err-step
returns-in_err-step c =
    let i = (goal.at.returns-in_err-step c).In-Some in
    let p = err_from_is_err_and c.from_residual.result c.from_residual.ensures.1 in
    let no = rw c.in_err-step.was at c.ask_extension.ensures in
    rw (p.1, p.2) (walking-stop c.loop-header.invariant.walking _ (here i) (rw (own-place (header i)) at no))

pub returns-then-headers-hello : goal.returns-then-headers-hello
returns-then-headers-hello c =
    let w = c.loop-header.invariant in
    let none = c.in_default.ensures.steps in
    let cut = rw w.same at none.1.0 in
    walking-stop w.walking 20 (omega (arith, c.if-headers-hello.true, none.1.1)) (λ done e. step_cut done _ cut)

pub returns : goal.returns
returns c = walking-end c.loop-header.invariant.walking (omega (arith, c.if-headers-hello.false, c.in_default.ensures.steps.1.1))
