-- As `put_value`, where the value is a varint as long as `varint_length` says: at most 8, so that its length is one byte. Assumes nothing.
use Prim.Native.Nat.{◌+◌}
use mathlib.Core.Path.{◌≡◌, refl, sym, ◌∙◌}
use mathlib.Core.List.{[], ◌∷◌, ◌++◌}
use lib.ListN.{length}
use Rattle.varint.specs.Varint.{shortest}
use Rattle.varint.proofs.RoundTrip.{length-shortest}
use Rattle.wire.specs.Front.{Put}
use Rattle.wire.proofs.Writing.{Writing, lent_from, back_from, filled, place-within, next-room}
use Rattle.tls_parameters.specs.Parameters.{parameter}
use Rattle.tls_parameters.proofs.ParameterLaws.{id-room, id-written, length-written, value_written, one_byte}
use native.Mathlib.Omega.{arith}
use Rattle.tls_parameters.proofs.put_number.Goals as goal
use Rattle.tls_parameters.proofs.put_number.Goals.{After-put_varint, After-put_varint-a, After-varint_length, After-w8}

id-done : (c : After-put_varint-a)
    → let args = c.args in
    let put-varint = c.put_varint-a in
    Writing
    (parameter args.id (shortest args.value))
    (shortest (length (shortest args.value)) ++ (shortest args.value ++ []))
    args.out.now
    put-varint.new.out
    put-varint.result
id-done c =
    let start = c in
    id-written start.args.id (shortest start.args.value) start.args.out.now start.requires.2 c.put_varint-a.ensures

-- the length of the value, and its byte
long : (c : After-varint_length) → c.varint_length.result ≡ length (shortest c.args.value)
long c = c.varint_length.ensures.0 ∙ sym (length-shortest c.args.value)

byte : (c : After-varint_length)
    → shortest (length (shortest c.args.value)) ≡ c.varint_length.result ∷ []
byte c = rw (← (long c)) (one_byte c.varint_length.result (omega (arith, c.varint_length.ensures.1)))

length-put : (c : After-w8)
    → let args = c.args in
    let put-varint = c.put_varint-a in
    Put (shortest (length (shortest args.value))) 1 (lent_from put-varint.result put-varint.new.out) c.w8.new.out
length-put c = rw (byte c.before) (filled refl c.w8.ensures)

length-done : (c : After-w8)
    → let args = c.args in
    let put-varint = c.put_varint-a in
    Writing
    (parameter args.id (shortest args.value))
    (shortest args.value ++ [])
    args.out.now
    (back_from put-varint.result put-varint.new.out c.w8.new.out)
    (put-varint.result + 1)
length-done c =
    let start = c in
    length-written start.args.id (shortest start.args.value) start.args.out.now start.requires.2 c.put_varint-a.ensures (length-put c)

pub put_varint-a-requires : goal.put_varint-a-requires
put_varint-a-requires c =
    let start = c in
    (start.requires.0, id-room start.args.id (shortest start.args.value) start.args.out.now start.requires.2)

pub w8-requires : goal.w8-requires
w8-requires c =
    let n = length (shortest c.args.value) in
    next-room (shortest n) _ (id-done (goal.at.w8-requires c).After-put_varint-a) (rw (byte c) refl)

pub put_varint-requires : goal.put_varint-requires
put_varint-requires c =
    let start = c in
    let v = start.args.value in
    (start.requires.1, next-room (shortest v) [] (length-done (goal.at.put_varint-requires c).After-w8) (length-shortest v))

-- all three
all_done : (c : After-put_varint)
    → let w8 = c.before.before.before.before in
    let args = w8.args in
    let first = w8.put_varint-a in
    let a = first.result in
    Put
    (parameter args.id (shortest args.value))
    (a + 1 + c.put_varint.result)
    args.out.now
    (back_from (a + 1) (back_from a first.new.out w8.w8.new.out) c.put_varint.new.out)
all_done c =
    let w8 = c.before.before.before.before in
    let start = w8 in
    value_written start.args.id (shortest start.args.value) start.args.out.now start.requires.2 w8.put_varint-a.ensures (length-put w8) c.put_varint.ensures

pub slice_bounds-w8-count : goal.slice_bounds-w8-count
slice_bounds-w8-count c = place-within (id-done (goal.at.slice_bounds-w8-count c).After-put_varint-a)

pub slice_bounds-w8-start : goal.slice_bounds-w8-start
slice_bounds-w8-start c = place-within (id-done (goal.at.slice_bounds-w8-start c).After-put_varint-a)

pub overflow_add-b : goal.overflow_add-b
overflow_add-b c = omega (arith, (length-done (goal.at.overflow_add-b c).After-w8).within)

pub slice_bounds-put_varint-count : goal.slice_bounds-put_varint-count
slice_bounds-put_varint-count c = place-within (length-done (goal.at.slice_bounds-put_varint-count c).After-w8)

pub slice_bounds-put_varint-start : goal.slice_bounds-put_varint-start
slice_bounds-put_varint-start c = place-within (length-done (goal.at.slice_bounds-put_varint-start c).After-w8)

pub overflow_add-result : goal.overflow_add-result
overflow_add-result c = omega (arith, (all_done (goal.at.overflow_add-result c).After-put_varint).count)

pub returns : goal.returns
returns c = all_done (goal.at.returns c).After-put_varint
