-- `read` meets its promise in each class: the number of the class's bytes without the two top bits. Assumes nothing.
use Prim.Native.Nat.{◌/◌, ◌%◌, ◌≤◌}
use mathlib.Core.Path.{◌≡◌, ap, ◌∙◌}
use native.Mathlib.Omega.{arith}
use lib.ListN.{length, get_or, take}
use lib.Dec.{lit<}
use Rattle.wire.specs.Numbers.{number}
use Rattle.varint.proofs.ByteLaws.{number-one, two, four, eight, no_byte, first_byte}
use Rattle.varint.proofs.Promises.{found_none, found-cut, found}
use Rattle.varint.proofs.read.Goals as goal
use Rattle.varint.proofs.read.Goals.{In-Some}

-- the first byte is there
first : (c : In-Some) → let s = c.args.input.now in (1 ≤ length s) × (get_or s 0 0 ≡ c.in-Some.field-0.now)
first c = first_byte c.args.input.now c.in-Some.field-0.now c.in-Some.ensures.value

pub returns-in_default : goal.returns-in_default
returns-in_default c = found_none c.args.input.now (no_byte c.args.input.now c.in_default.ensures.value)

pub returns-then-first-lt64 : goal.returns-then-first-lt64
returns-then-first-lt64 c =
    let s = c.args.input.now in
    let f = first (goal.at.returns-then-first-lt64 c).In-Some in
    let n : c.from.result ≡ number 256 (take 1 s) = omega (arith, c.from.ensures, f.1, number-one s f.0) in
    rw c.varint.ensures (found s 0 (omega (arith, f.1, c.if-first-lt64.true)) (lit< tt) f.0 _ (ap (λ n. n % 64) n))

pub returns-in_default-first_chunk : goal.returns-in_default-first_chunk
returns-in_default-first_chunk c =
    let f = first (goal.at.returns-in_default-first_chunk c).In-Some in
    found-cut c.args.input.now 1 (omega (arith, f.1, c.if-first-lt64.false, c.if-first-lt128.true)) (lit< tt) 1 (omega arith) c.in_default-first_chunk.ensures.cases

pub returns-then-first-lt128 : goal.returns-then-first-lt128
returns-then-first-lt128 c =
    let s = c.args.input.now in
    let f = first (goal.at.returns-then-first-lt128 c).In-Some in
    let chunk = c.in-Some-first_chunk.ensures.cases in
    let n : c.from-then-first-lt128.result ≡ number 256 (take 2 s)
    = c.from-then-first-lt128.ensures ∙ c.from_be_bytes.ensures ∙ two s _ chunk.enough chunk.same in
    rw c.varint-then-first-lt128.ensures
    (found s 1 (omega (arith, f.1, c.if-first-lt64.false, c.if-first-lt128.true)) (lit< tt) chunk.enough _ (ap (λ n. n % 16384) n))

pub returns-in_default-first_chunk-2 : goal.returns-in_default-first_chunk-2
returns-in_default-first_chunk-2 c =
    let f = first (goal.at.returns-in_default-first_chunk-2 c).In-Some in
    found-cut c.args.input.now 2 (omega (arith, f.1, c.if-first-lt128.false, c.if-first-lt192.true)) (lit< tt) 2 (omega arith) c.in_default-first_chunk-2.ensures.cases

pub returns-then-first-lt192 : goal.returns-then-first-lt192
returns-then-first-lt192 c =
    let s = c.args.input.now in
    let f = first (goal.at.returns-then-first-lt192 c).In-Some in
    let chunk = c.in-Some-first_chunk-2.ensures.cases in
    let n : c.from-then-first-lt192.result ≡ number 256 (take 4 s)
    = c.from-then-first-lt192.ensures ∙ c.from_be_bytes-then-first-lt192.ensures ∙ four s _ chunk.enough chunk.same in
    rw c.varint-then-first-lt192.ensures
    (found s 2 (omega (arith, f.1, c.if-first-lt128.false, c.if-first-lt192.true)) (lit< tt) chunk.enough _ (ap (λ n. n % 1073741824) n))

pub returns-in_default-first_chunk-3 : goal.returns-in_default-first_chunk-3
returns-in_default-first_chunk-3 c =
    let f = first (goal.at.returns-in_default-first_chunk-3 c).In-Some in
    let e : get_or c.args.input.now 0 0 / 64 ≡ 3 = omega (arith, f.1, c.if-first-lt192.false, (c.type_inv.input 0).fits) in
    found-cut c.args.input.now 3 e (lit< tt) 3 (omega arith) c.in_default-first_chunk-3.ensures.cases

pub returns : goal.returns
returns c =
    let s = c.args.input.now in
    let f = first (goal.at.returns c).In-Some in
    let chunk = c.in-Some-first_chunk-3.ensures.cases in
    let e : get_or s 0 0 / 64 ≡ 3 = omega (arith, f.1, c.if-first-lt192.false, (c.type_inv.input 0).fits) in
    let n : c.from_be_bytes-2.result ≡ number 256 (take 8 s)
    = c.from_be_bytes-2.ensures ∙ eight s _ chunk.enough chunk.same in
    rw c.varint-2.ensures (found s 3 e (lit< tt) chunk.enough _ (ap (λ n. n % 4611686018427387904) n))
