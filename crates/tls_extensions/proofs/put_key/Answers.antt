-- For secp256r1 a byte and 64 that are drawn, else drawn bytes alone. Assumes nothing.
use Prim.Native.Nat.{◌-◌}
use mathlib.Core.Path.{◌≡◌, refl, sym, ◌∙◌}
use mathlib.Core.Logic.{◌≢◌}
use borrow.Author.Tests.{eqb-true, eqb-false}
use Rattle.wire.proofs.Writing.{filled, joined}
use Rattle.tape.proofs.DrawLaws.{length-rand_bytes}
use Rattle.tls_extensions.proofs.ShareLaws.{size-secp, draws-secp, key-secp, draws-other, key-other}
use native.Mathlib.Omega.{arith}
use borrow.Author.Rules.{rules}
use Rattle.tls_extensions.proofs.put_key.Goals as goal
use Rattle.tls_extensions.proofs.put_key.Goals.{Else-eq, Then-eq}

-- what the test says of the group
secp : (c : Then-eq) → c.args.group.0 ≡ 23
secp c = eqb-true _ 23 (sym c.eq.ensures ∙ c.if-eq.true)

other : (c : Else-eq) → c.args.group.0 ≢ 23
other c = eqb-false _ 23 (sym c.eq.ensures ∙ c.if-eq.false)

pub w8-requires : goal.w8-requires
w8-requires c = omega (arith, size-secp (secp (goal.at.w8-requires c).Then-eq))

pub slice_bounds-rand_bytes-count : goal.slice_bounds-rand_bytes-count
slice_bounds-rand_bytes-count c = omega (arith, size-secp (secp (goal.at.slice_bounds-rand_bytes-count c).Then-eq))

pub slice_bounds-rand_bytes-start : goal.slice_bounds-rand_bytes-start
slice_bounds-rand_bytes-start c = omega (arith, size-secp (secp (goal.at.slice_bounds-rand_bytes-start c).Then-eq))

pub overflow_sub-size : goal.overflow_sub-size
overflow_sub-size c = omega (arith, size-secp (secp (goal.at.overflow_sub-size c).Then-eq))

pub rand_bytes-requires : goal.rand_bytes-requires
rand_bytes-requires c =
    let is-secp = secp (goal.at.rand_bytes-requires c).Then-eq in
    let size = size-secp is-secp in
    let draws = draws-secp is-secp in
    search rules

pub returns-then-eq : goal.returns-then-eq
returns-then-eq c =
    let test = (goal.at.returns-then-eq c).Then-eq in
    let args = test.args in
    let is-secp = secp test in
    let size = test.key_share_size-size in
    let w8 = c.w8 in
    let count : size.result - 1 ≡ 64 = omega (arith, size.ensures.0, size-secp is-secp) in
    let drawn = rw count at c.rand_bytes.ensures in
    let key = joined (filled refl w8.ensures) drawn in (
      omega (arith, drawn.count, length-rand_bytes 64 args.tape.now args.at, draws-secp is-secp),
      rw (key-secp is-secp args.tape.now args.at) key.output,
    )

pub rand_bytes-requires-2 : goal.rand_bytes-requires-2
rand_bytes-requires-2 c =
    let draws = draws-other (other (goal.at.rand_bytes-requires-2 c).Else-eq) in
    search rules

pub returns : goal.returns
returns c =
    let test = (goal.at.returns c).Else-eq in
    let args = test.args in
    let size = test.key_share_size-size in
    let drawn = rw size.ensures.0 at c.rand_bytes-2.ensures in (
      omega (arith, drawn.count, length-rand_bytes size.result args.tape.now args.at, size.ensures.0, draws-other (other test)),
      rw (key-other (other test) args.tape.now args.at) drawn.output,
    )
