-- `script_writing::numbers::put_digits` meets its contract: a space is written, and the part after it is filled with the digits. Assumes nothing.
use Prim.Native.Nat.{ℕ, ◌+◌, ◌-◌}
use mathlib.Core.Path.{◌≡◌, refl, ap, ◌∙◌}
use mathlib.Core.List.{[], ◌∷◌}
use Rattle.wire.specs.Front.{front}
use Rattle.script.specs.Scan.{space}
use Rattle.script_writing.proofs.ShownLaws.{written, not_written}
use Rattle.script_writing.specs.Hex.{hex_digits}
use Rattle.script_writing.proofs.DigitLaws.{length-hex_digits, filled-after}
use native.Mathlib.Omega.{arith}
use Rattle.script_writing.proofs.numbers.put_digits.Goals as goal

pub returns-then-out-width : goal.returns-then-out-width
returns-then-out-width c =
    let args = c.args in
    not_written (space ∷ hex_digits args.width args.v) args.out.now (omega (arith, length-hex_digits args.width args.v))

pub returns : goal.returns
unfolding hex_digits
returns c =
    let old = c.args.out.now in
    let w = c.args.width in
    let v = c.args.v in
    let first = c.w8 in
    let digits = c.fill_digits in
    let k : w + 1 - 1 ≡ w = omega arith in
    let stands = filled-after (λ n. hex_digits n v) (λ n. length-hex_digits n v) (space ∷ []) old first.new.out digits.new.part 1 (w + 1 - 1) refl (omega (arith, c.if-out-width.false)) first.ensures digits.ensures in
    written (space ∷ hex_digits w v) (w + 1) old _ (omega (arith, length-hex_digits w v)) (omega (arith, length-hex_digits w v))
    (stands ∙ ap (λ (n : ℕ). front (space ∷ hex_digits n v) old) k)
