-- `block_stop` keeps the state `Stopping` from one extension to the next. Assumes nothing.
use Prim.Native.Nat.{◌+◌, ◌<◌}
use mathlib.Core.Path.{◌≡◌, sym, ◌∙◌}
use lib.ListN.{length, take, drop}
use lib.Seq.{length-take-le}
use native.Mathlib.Omega.{arith}
use Rattle.std.specs.Prelude.{Ok}
use Rattle.wire.specs.Refusals.{question}
use Rattle.fingerprint.specs.Code.{HeaderFound, StepAs}
use Rattle.fingerprint.proofs.StepLaws.{own-place, step_cut}
use Rattle.fingerprint_stops.proofs.WalkLaws.{all-marked, stopping-start, stopping-end, stopping-stop, stopping-next, has_room, place-cut}
use Rattle.fingerprint_stops.proofs.block_stop.Goals as goal
use Rattle.fingerprint_stops.proofs.block_stop.Goals.{In-Some, In-Ok}

pub loop-header-init : goal.loop-header-init
loop-header-init c =
    record {
      same = c.of-headers.ensures.0;
      stopping = rw c.of-headers.ensures.1 (stopping-start c.args.hello.now c.args.block c.requires.0);
    }

header : (c : In-Some) →
    let e = c.in-Some.header in
    HeaderFound c.args.hello.now c.loop-header.headers.at e.ext_type e.start e.end
header c = rw c.loop-header.invariant.same at c.in-Some.ensures.steps.1.0

here : (c : In-Some) → c.loop-header.headers.at < length c.args.hello.now
here c = let f = header c in omega (arith, f.after-header, f.forward, f.inside)

found : (c : In-Ok) →
    let l = c.loop-header in
    StepAs (Ok c.in-Ok.field-0) c.args.hello.now c.in-Some.header (take l.count l.types) l.ids c.ask_extension.new.ids
found c = rw c.in-Ok.is at c.ask_extension.ensures

room : (c : In-Ok) → c.loop-header.count < 64
room c = has_room c.loop-header.invariant.stopping (found c).0.room

pub slice_bounds-known-end : goal.slice_bounds-known-end
slice_bounds-known-end c =
    let w = c.loop-header.invariant.stopping in
    sym (length-take-le c.loop-header.count c.loop-header.types (omega (arith, w.few, w.types_long)))

pub invariant_of-known : goal.invariant_of-known
invariant_of-known c = record { marked = all-marked (take c.loop-header.count c.loop-header.types) }

pub loop-header-preserved : goal.loop-header-preserved
loop-header-preserved c =
    let w = c.loop-header.invariant in
    let given = c.in-Some.ensures.steps in
    let i = (goal.at.loop-header-preserved c).In-Some in
    let s = found (goal.at.loop-header-preserved c).In-Ok in
    record {
      same = given.0 ∙ w.same;
      stopping = rw given.1.1 (stopping-next w.stopping (here i) (rw (own-place (header i)) at s.0) s.1);
    }

pub returns-in-Err : goal.returns-in-Err
returns-in-Err c =
    let i = (goal.at.returns-in-Err c).In-Some in
    let no = rw c.in-Err.is at c.ask_extension.ensures in
    rw (own-place (header i))
    (stopping-stop c.loop-header.invariant.stopping (here i) (question c.in-Err.refusal) c.place_in.result (rw (own-place (header i)) at no) (rw (own-place (header i)) at c.place_in.ensures.0))

pub returns-then-headers-hello : goal.returns-then-headers-hello
returns-then-headers-hello c =
    let w = c.loop-header.invariant in
    let at = c.loop-header.headers.at in
    let none = c.in_default.ensures.steps in
    let cut = rw w.same at none.1.0 in
    let place : c.next.new.self.at ≡ at + 0 = omega (arith, none.1.1) in
    rw place
    (stopping-stop w.stopping (omega (arith, c.if-headers-hello.true, none.1.1)) 20 0 (λ done e. step_cut done (drop at c.args.hello.now) cut)
    (place-cut (take c.loop-header.count c.loop-header.types) (drop at c.args.hello.now) cut))

pub returns : goal.returns
returns c = stopping-end c.loop-header.invariant.stopping (omega (arith, c.if-headers-hello.false, c.in_default.ensures.steps.1.1))
