-- `read_frame` goes by the type at the front. Assumes nothing.
use Rattle.frames.proofs.ReadLaws.{no-frame, is-padding, is-ping, is-crypto, is-cut, is-unknown}
use Prim.Native.Nat.{ℕ, ◌≤◌}
use mathlib.Core.Path.{◌≡◌, sym}
use mathlib.Core.Bool.{false, false≢true}
use mathlib.Core.List.{List, [], ◌∷◌}
use lib.ListN.{length}
use borrow.Author.Tests.{eqb-true}
use Rattle.std.specs.Prelude.{◌==◌}
use Rattle.std.proofs.lemmas.Result.{err_from_is_err_and}
use native.Mathlib.Omega.{arith}
use borrow.Author.Rules.{rules}
use Rattle.frames.proofs.reading.read_frame.Goals as goal

some-byte : (s : List ℕ) → false ≡ (length s == 0) → 1 ≤ length s
some-byte [] e = absurd (false≢true e)
some-byte (b ∷ s) e = omega arith

pub returns-then-is_empty : goal.returns-then-is_empty
returns-then-is_empty c = no-frame c.args.input.now (eqb-true _ 0 (sym c.if-is_empty.ensures))

pub returns-in-0 : goal.returns-in-0
returns-in-0 c =
    let args = c.args in
    is-padding args.input.now (some-byte c.args.input.now c.if-is_empty.ensures) c.in-0.is

pub returns-in-1 : goal.returns-in-1
returns-in-1 c =
    let args = c.args in
    is-ping args.input.now (some-byte c.args.input.now c.if-is_empty.ensures) c.in-1.is

pub returns-in_ok-read_crypto-in-6 : goal.returns-in_ok-read_crypto-in-6
returns-in_ok-read_crypto-in-6 c = is-crypto c.args.input.now _ (some-byte c.args.input.now c.if-is_empty.ensures) c.in-6.is c.in_ok-read_crypto-in-6.ensures

pub returns-in_err-read_crypto-in-6 : goal.returns-in_err-read_crypto-in-6
returns-in_err-read_crypto-in-6 c =
    let p = err_from_is_err_and c.from_residual.result c.from_residual.ensures.1 in
    rw (p.1, p.2) (is-cut c.args.input.now _ (some-byte c.args.input.now c.if-is_empty.ensures) c.in-6.is c.in_err-read_crypto-in-6.ensures)

pub returns-in_default : goal.returns-in_default
returns-in_default c =
    let args = c.args in
    is-unknown args.input.now (some-byte c.args.input.now c.if-is_empty.ensures) (search rules) (search rules) (search rules)
