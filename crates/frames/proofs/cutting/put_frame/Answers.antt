-- `put_frame` writes a frame: the type, then offset, length and data, each to the part after the last. Assumes nothing.
use mathlib.Core.Path.{refl}
use lib.ListN.{length}
use Rattle.varint.specs.Varint.{shortest}
use Rattle.varint.proofs.RoundTrip.{length-shortest}
use Rattle.wire.proofs.Writing.{place-within, next-room, finished}
use Rattle.frames.proofs.CutLaws.{shortest-most, frame-parts, length-frame, typed, offset-written, length-written, data-written}
use native.Mathlib.Omega.{arith}
use Rattle.frames.proofs.cutting.put_frame.Goals as goal

pub bounds-out-0 : goal.bounds-out-0
bounds-out-0 c =
    let pre = c.requires in
    let args = c.args in
    omega (arith, pre.2, length-frame args.offset args.bytes.now)

pub slice_bounds-put_varint-count : goal.slice_bounds-put_varint-count
slice_bounds-put_varint-count c =
    let args = c.args in
    let pre = c.requires in
    let at = args.offset in
    let bs = args.bytes.now in
    let old = args.out.now in
    place-within (typed at bs old pre.2)

pub slice_bounds-put_varint-start : goal.slice_bounds-put_varint-start
slice_bounds-put_varint-start c =
    let args = c.args in
    let pre = c.requires in
    let at = args.offset in
    let bs = args.bytes.now in
    let old = args.out.now in
    place-within (typed at bs old pre.2)

pub put_varint-a-requires : goal.put_varint-a-requires
put_varint-a-requires c =
    let args = c.args in
    let pre = c.requires in
    let at = args.offset in
    let bs = args.bytes.now in
    let old = args.out.now in
    (omega (arith, pre.0), next-room (shortest at) _ (typed at bs old pre.2) (length-shortest at))

pub overflow_add-a : goal.overflow_add-a
overflow_add-a c =
    let put-varint = c.put_varint-a in
    let args = c.args in
    omega (arith, put-varint.ensures.count, shortest-most args.offset)

pub slice_bounds-put_varint-count-2 : goal.slice_bounds-put_varint-count-2
slice_bounds-put_varint-count-2 c =
    let args = c.args in
    let pre = c.requires in
    let put-varint = c.put_varint-a in
    let at = args.offset in
    let bs = args.bytes.now in
    let old = args.out.now in
    place-within (offset-written at bs old pre.2 put-varint.ensures)

pub slice_bounds-put_varint-start-2 : goal.slice_bounds-put_varint-start-2
slice_bounds-put_varint-start-2 c =
    let args = c.args in
    let pre = c.requires in
    let put-varint = c.put_varint-a in
    let at = args.offset in
    let bs = args.bytes.now in
    let old = args.out.now in
    place-within (offset-written at bs old pre.2 put-varint.ensures)

pub put_varint-requires : goal.put_varint-requires
put_varint-requires c =
    let args = c.args in
    let pre = c.requires in
    let put-varint = c.put_varint-a in
    let bs = args.bytes.now in
    (omega (arith, pre.1), next-room (shortest (length bs)) _ (offset-written args.offset bs args.out.now pre.2 put-varint.ensures) (length-shortest (length bs)))

pub overflow_add-b : goal.overflow_add-b
overflow_add-b c =
    let put-varint = c.put_varint-a in
    let put-varint2 = c.put_varint in
    let args = c.args in
    omega (arith, put-varint.ensures.count, put-varint2.ensures.count, shortest-most args.offset, shortest-most (length args.bytes.now))

pub slice_bounds-put_bytes-count : goal.slice_bounds-put_bytes-count
slice_bounds-put_bytes-count c =
    let args = c.args in
    let pre = c.requires in
    let put-varint = c.put_varint-a in
    let put-varint2 = c.put_varint in
    let at = args.offset in
    let bs = args.bytes.now in
    let old = args.out.now in
    place-within (length-written at bs old pre.2 put-varint.ensures put-varint2.ensures)

pub slice_bounds-put_bytes-start : goal.slice_bounds-put_bytes-start
slice_bounds-put_bytes-start c =
    let args = c.args in
    let pre = c.requires in
    let put-varint = c.put_varint-a in
    let put-varint2 = c.put_varint in
    let at = args.offset in
    let bs = args.bytes.now in
    let old = args.out.now in
    place-within (length-written at bs old pre.2 put-varint.ensures put-varint2.ensures)

pub put_bytes-requires : goal.put_bytes-requires
put_bytes-requires c =
    let args = c.args in
    let pre = c.requires in
    let put-varint = c.put_varint-a in
    let put-varint2 = c.put_varint in
    let at = args.offset in
    let bs = args.bytes.now in
    let old = args.out.now in
    next-room bs _ (length-written at bs old pre.2 put-varint.ensures put-varint2.ensures) refl

pub overflow_add-result : goal.overflow_add-result
overflow_add-result c =
    let pre = c.requires in
    let put-varint = c.put_varint-a in
    let put-varint2 = c.put_varint in
    let put-bytes = c.put_bytes in
    let args = c.args in
    omega (arith, pre.1, put-varint.ensures.count, put-varint2.ensures.count, put-bytes.ensures.count, shortest-most args.offset, shortest-most (length args.bytes.now))

pub returns : goal.returns
returns c =
    let args = c.args in
    let pre = c.requires in
    let put-varint = c.put_varint-a in
    let put-varint2 = c.put_varint in
    let put-bytes = c.put_bytes in
    let at = args.offset in
    let bs = args.bytes.now in
    let old = args.out.now in
    rw (frame-parts at bs) (finished (data-written at bs old pre.2 put-varint.ensures put-varint2.ensures put-bytes.ensures))
