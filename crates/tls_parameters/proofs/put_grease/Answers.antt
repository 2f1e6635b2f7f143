-- Id and value are drawn, one after the other. Assumes nothing.
use Prim.Native.Nat.{◌+◌}
use mathlib.Core.Path.{◌≡◌, ◌∙◌, ap}
use Rattle.tape.specs.Tape.{next_u64, grease_id}
use Rattle.tape.proofs.DrawLaws.{length-rand_bytes}
use Rattle.tls_parameters.proofs.ParameterLaws.{six-bytes}
use native.Mathlib.Omega.{arith}
use Rattle.tls_parameters.proofs.put_grease.Goals as goal
use Rattle.tls_parameters.proofs.put_grease.Goals.{After-grease_tp_id-id}

id-is : (c : After-grease_tp_id-id)
    → let args = c.args in
    c.grease_tp_id-id.result ≡ grease_id (next_u64 args.tape.now args.at)
id-is c = c.grease_tp_id-id.ensures.0 ∙ ap grease_id c.next_u64.ensures.0

pub put_value-requires : goal.put_value-requires
put_value-requires c =
    let args = c.args in
    let pre = c.requires in
    let grease-tp-id = c.grease_tp_id-id in
    let after-grease-tp-id = (goal.at.put_value-requires c).After-grease_tp_id-id in
    let tape = args.tape.now in
    let at = args.at in
    rw (six-bytes tape at pre.0)
    (grease-tp-id.ensures.1, omega (arith, length-rand_bytes 6 tape (at + 8)), rw (id-is after-grease-tp-id) pre.1)

pub returns : goal.returns
returns c =
    let args = c.args in
    let pre = c.requires in
    let after-grease-tp-id = (goal.at.returns c).After-grease_tp_id-id in
    let put-value = c.put_value in
    rw (id-is after-grease-tp-id, six-bytes args.tape.now args.at pre.0) at put-value.ensures
