-- `stopped_at` asks for the fields, for the count of the suites, and for the extensions. Assumes nothing.
use Prim.Native.Nat.{◌+◌}
use mathlib.Core.Path.{◌∙◌}
use Rattle.std.specs.Prelude.{Some}
use Rattle.wire.specs.Refusals.{question}
use Rattle.wire.specs.declared.refusals.Refusal.TheVariants as no
use Rattle.fingerprint.specs.Code.{FieldsFound}
use Rattle.fingerprint_stops.proofs.AnswerLaws.{bounded, refused-stop, suites-stop, extensions-stop}
use Rattle.fingerprint_stops.proofs.stopped_at.Goals as goal
use Rattle.fingerprint_stops.proofs.stopped_at.Goals.{In-Ok}

found : (c : In-Ok) → FieldsFound c.args.hello.now c.in-Ok.head
found c = c.in-Ok.ensures

pub returns-then-head-gt128 : goal.returns-then-head-gt128
returns-then-head-gt128 c =
    let stop = Some (record { refusal = no.ListTooLong; place = 41 + c.in-Ok.head.session + 128 }) in
    let b = bounded c.args.hello.now stop (suites-stop (found (goal.at.returns-then-head-gt128 c).In-Ok) c.if-head-gt128.true) in
    record { result_value = b.0; stop_bounds = b.1 }

pub block_stop-requires : goal.block_stop-requires
block_stop-requires c =
    let f = found (goal.at.block_stop-requires c).In-Ok in
    (f.inside, f.short)

pub returns-else-head-gt128 : goal.returns-else-head-gt128
returns-else-head-gt128 c =
    let b = bounded c.args.hello.now c.block_stop.result (c.block_stop.ensures ∙ extensions-stop (found (goal.at.returns-else-head-gt128 c).In-Ok) c.if-head-gt128.false) in
    record { result_value = b.0; stop_bounds = b.1 }

pub returns-in-Err : goal.returns-in-Err
returns-in-Err c =
    let h = c.args.hello.now in
    let n = question c.in-Err.refusal in
    let stop = Some (record { refusal = c.in-Err.refusal; place = c.head_place.result }) in
    let b = bounded h stop (refused-stop h n c.head_place.result c.in-Err.ensures c.head_place.ensures) in
    record { result_value = b.0; stop_bounds = b.1 }
