-- The body stands after the place of the head, and then the head is written. Assumes nothing.
use mathlib.Core.List.{◌∷◌}
use Rattle.wire.specs.Numbers.{digits}
use Rattle.wire.proofs.NumberLaws.{length_digits}
use Rattle.wire.proofs.Writing.{Writing, back_from, filled, place-within, last_written, last-room}
use Rattle.tls.proofs.HelloLaws.{hello-long, body-room, body-small, body_back, type-stands, hello-put}
use native.Mathlib.Omega.{arith}
use Rattle.tls.proofs.making.put_hello.Goals as goal
use Rattle.tls.proofs.making.put_hello.Goals.{After-slice_known-3-1}

-- the message type stands before the body
written :
    (c : After-slice_known-3-1) →
    let w = c.put_body-w.result in
    Writing (1 ∷ digits 256 3 w.length) (digits 256 3 w.length) (back_from 4 c.args.out.now (c.put_body-w.new.out)) (c.w8.new.out) 1
written c =
    let put-body = c.put_body-w in
    let w8 = c.w8 in
    let start = c in
    let args = start.args in
    type-stands args.profile.now args.name.now args.scid.now args.tape.now args.out.now start.requires put-body.ensures w8.ensures

pub slice_bounds-put_body-count : goal.slice_bounds-put_body-count
slice_bounds-put_body-count c =
    let start = c in
    let args = start.args in
    hello-long args.profile.now args.name.now args.scid.now args.tape.now start.requires

pub slice_bounds-put_body-start : goal.slice_bounds-put_body-start
slice_bounds-put_body-start c =
    let start = c in
    let args = start.args in
    hello-long args.profile.now args.name.now args.scid.now args.tape.now start.requires

pub put_body-w-requires : goal.put_body-w-requires
put_body-w-requires c =
    let start = c in
    let args = start.args in
    body-room args.profile.now args.name.now args.scid.now args.tape.now args.out.now start.requires

pub w8-requires : goal.w8-requires
w8-requires c =
    let put-body = c.put_body-w in
    let start = c in
    let args = start.args in
    omega (arith, body_back args.profile.now args.name.now args.scid.now args.tape.now args.out.now start.requires put-body.ensures)

pub slice_bounds-w24-count : goal.slice_bounds-w24-count
slice_bounds-w24-count c = place-within (written c)

pub slice_bounds-w24-start : goal.slice_bounds-w24-start
slice_bounds-w24-start c = place-within (written c)

pub overflow_cast-w : goal.overflow_cast-w
overflow_cast-w c =
    let put-body = c.put_body-w in
    let start = c in
    let args = start.args in
    omega (arith, body-small args.profile.now args.name.now args.scid.now args.tape.now args.out.now start.requires put-body.ensures)

pub w24-requires : goal.w24-requires
w24-requires c =
    let n = c.put_body-w.result.length in
    last-room (digits 256 3 n) (written (goal.at.w24-requires c).After-slice_known-3-1) (length_digits 256 3 n)

pub overflow_add-result : goal.overflow_add-result
overflow_add-result c =
    let put-body = c.put_body-w in
    let start = c in
    let args = start.args in
    omega (arith, body-small args.profile.now args.name.now args.scid.now args.tape.now args.out.now start.requires put-body.ensures)

pub returns : goal.returns
returns c =
    let w24 = c.w24 in
    let put-body = c.put_body-w in
    let start = c in
    let args = start.args in
    let n = c.put_body-w.result.length in
    let head = last_written (digits 256 3 n) (written (goal.at.returns c).After-slice_known-3-1) (filled (length_digits 256 3 n) w24.ensures) in
    hello-put args.profile.now args.name.now args.scid.now args.tape.now args.out.now start.requires put-body.ensures head.output
