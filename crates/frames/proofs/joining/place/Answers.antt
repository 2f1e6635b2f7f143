-- `place` asks questions 13 and 14 of the buffers, then writes the piece and its marks over them. Assumes nothing.
use mathlib.Core.Path.{sym, ◌∙◌}
use Prim.Native.Nat.{◌+◌, ◌-◌}
use lib.ListN.{length}
use Rattle.frames.proofs.PlacingLaws.{too_far, unlike, laid}
use native.Mathlib.Omega.{arith}
use Rattle.frames.proofs.joining.place.Goals as goal

pub returns-then-offset : goal.returns-then-offset
returns-then-offset c = too_far (omega (arith, c.if-offset.true))

pub returns-then-at-piece : goal.returns-then-at-piece
returns-then-at-piece c = too_far (omega (arith, c.if-offset.false, c.if-at-piece.true))

pub returns-then-not-agrees : goal.returns-then-not-agrees
returns-then-not-agrees c =
    let args = c.args in
    let if1 = c.if-offset in
    let if2 = c.if-at-piece in
    let n = length args.piece.now in
    unlike (args.offset + n - args.offset) (omega arith) (omega (arith, if1.false, if2.false)) (sym c.agrees.ensures ∙ c.if-not-agrees.true)

pub returns : goal.returns
returns c =
    let start = c in
    let if1 = c.if-offset in
    let if2 = c.if-at-piece in
    let agrees = c.agrees in
    let if3 = c.if-not-agrees in
    let put-bytes = c.put_bytes in
    let n = length start.args.piece.now in
    laid (start.args.offset + n - start.args.offset) (omega arith) (omega (arith, if1.false, if2.false)) (sym agrees.ensures ∙ if3.false) start.requires.0 start.requires.1 _ _ put-bytes.ensures.output (c.fill.ensures.after (λ y e. e))
