-- Id, length and value are written one after the other, each to the part after the last. Assumes nothing.
use Prim.Native.Nat.{◌+◌}
use mathlib.Core.Path.{refl}
use mathlib.Core.List.{[], ◌++◌}
use lib.ListN.{length}
use Rattle.varint.specs.Varint.{shortest}
use Rattle.varint.proofs.RoundTrip.{length-shortest}
use Rattle.wire.specs.Front.{Put}
use Rattle.wire.proofs.Writing.{Writing, back_from, place-within, next-room}
use Rattle.tls_parameters.specs.Parameters.{parameter}
use Rattle.tls_parameters.proofs.ParameterLaws.{id-room, id-written, length-written, value_written}
use native.Mathlib.Omega.{arith}
use Rattle.tls_parameters.proofs.put_value.Goals as goal
use Rattle.tls_parameters.proofs.put_value.Goals.{After-put_bytes, After-put_varint, After-put_varint-a}

id-done : (c : After-put_varint-a)
    → let args = c.args in
    let put-varint = c.put_varint-a in
    Writing
    (parameter args.id args.value.now)
    (shortest (length args.value.now) ++ (args.value.now ++ []))
    args.out.now
    put-varint.new.out
    put-varint.result
id-done c =
    let args = c.args in
    let pre = c.requires in
    let put-varint = c.put_varint-a in
    id-written args.id args.value.now args.out.now pre.2 put-varint.ensures

length-done : (c : After-put_varint)
    → let args = c.args in
    let put-varint = c.put_varint-a in
    let put-varint2 = c.put_varint in
    Writing
    (parameter args.id args.value.now)
    (args.value.now ++ [])
    args.out.now
    (back_from put-varint.result put-varint.new.out put-varint2.new.out)
    (put-varint.result + put-varint2.result)
length-done c =
    let args = c.args in
    let pre = c.requires in
    let put-varint = c.put_varint-a in
    let put-varint2 = c.put_varint in
    length-written args.id args.value.now args.out.now pre.2 put-varint.ensures put-varint2.ensures

all_done : (c : After-put_bytes)
    → let args = c.args in
    let first = c.put_varint-a in
    let second = c.put_varint in
    let a = first.result in
    let b = second.result in
    Put
    (parameter args.id args.value.now)
    (a + b + c.put_bytes.result)
    args.out.now
    (back_from (a + b) (back_from a first.new.out second.new.out) c.put_bytes.new.out)
all_done c =
    let args = c.args in
    let pre = c.requires in
    let put-varint = c.put_varint-a in
    let put-varint2 = c.put_varint in
    let put-bytes = c.put_bytes in
    value_written args.id args.value.now args.out.now pre.2 put-varint.ensures put-varint2.ensures put-bytes.ensures

pub put_varint-a-requires : goal.put_varint-a-requires
put_varint-a-requires c =
    let args = c.args in
    let pre = c.requires in
    (pre.0, id-room args.id args.value.now args.out.now pre.2)

pub slice_bounds-put_varint-count : goal.slice_bounds-put_varint-count
slice_bounds-put_varint-count c = place-within (id-done (goal.at.slice_bounds-put_varint-count c).After-put_varint-a)

pub slice_bounds-put_varint-start : goal.slice_bounds-put_varint-start
slice_bounds-put_varint-start c = place-within (id-done (goal.at.slice_bounds-put_varint-start c).After-put_varint-a)

pub put_varint-requires : goal.put_varint-requires
put_varint-requires c =
    let args = c.args in
    let pre = c.requires in
    let after-put-varint = (goal.at.put_varint-requires c).After-put_varint-a in
    let n = length args.value.now in
    (omega (arith, pre.1), next-room (shortest n) _ (id-done after-put-varint) (length-shortest n))

pub overflow_add-b : goal.overflow_add-b
overflow_add-b c = omega (arith, (length-done (goal.at.overflow_add-b c).After-put_varint).within)

pub slice_bounds-put_bytes-count : goal.slice_bounds-put_bytes-count
slice_bounds-put_bytes-count c = place-within (length-done (goal.at.slice_bounds-put_bytes-count c).After-put_varint)

pub slice_bounds-put_bytes-start : goal.slice_bounds-put_bytes-start
slice_bounds-put_bytes-start c = place-within (length-done (goal.at.slice_bounds-put_bytes-start c).After-put_varint)

pub put_bytes-requires : goal.put_bytes-requires
put_bytes-requires c =
    let args = c.args in
    let after-put-varint2 = (goal.at.put_bytes-requires c).After-put_varint in
    next-room args.value.now [] (length-done after-put-varint2) refl

pub overflow_add-result : goal.overflow_add-result
overflow_add-result c = omega (arith, (all_done (goal.at.overflow_add-result c).After-put_bytes).count)

pub returns : goal.returns
returns c = all_done (goal.at.returns c).After-put_bytes
