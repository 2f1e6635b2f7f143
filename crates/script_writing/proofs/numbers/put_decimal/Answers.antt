-- `script_writing::numbers::put_decimal` meets its contract: the part of the number's width is filled with its digits. Assumes nothing.
use Prim.Native.Nat.{ℕ}
use mathlib.Core.Path.{refl, ap, ◌∙◌}
use mathlib.Core.List.{[]}
use native.Mathlib.Omega.{arith}
use Rattle.wire.specs.Front.{front}
use Rattle.wire.proofs.FrontLaws.{front-none}
use Rattle.script_writing.specs.Decimal.{decimal_digits, decimal_text}
use Rattle.script_writing.proofs.DigitLaws.{length-decimal_digits, length-decimal_text, digits-decimal, filled-after}
use Rattle.script_writing.proofs.ShownLaws.{written, not_written}
use Rattle.script_writing.proofs.numbers.put_decimal.Goals as goal

pub returns-then-out-width : goal.returns-then-out-width
returns-then-out-width c =
    let start = c in
    not_written (decimal_text start.args.n) start.args.out.now
    (omega (arith, length-decimal_text start.args.n, c.decimal_width-width.ensures.0, c.if-out-width.true))

pub returns : goal.returns
unfolding decimal_text
returns c =
    let v = c.args.n in
    let old = c.args.out.now in
    let if1 = c.if-out-width in
    let digits = c.fill_digits in
    let w = c.decimal_width-width.result in
    let width = c.decimal_width-width.ensures.0 in
    let stands = filled-after (λ n. decimal_digits n v) (λ n. length-decimal_digits n v) [] old old digits.new.part 0 w refl (omega arith) (front-none old) (digits.ensures ∙ digits-decimal _ v) in
    written (decimal_text v) w old _ (omega (arith, length-decimal_text v, width, if1.false)) (omega (arith, length-decimal_text v, width))
    (stands ∙ ap (λ (k : ℕ). front (decimal_digits k v) old) width)
