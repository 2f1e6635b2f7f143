-- `script_writing::bytes::put_pair` meets its contract: the byte's two digits fill the front. Assumes nothing.
use Prim.Native.Nat.{◌/◌, ◌%◌}
use mathlib.Core.Path.{◌≡◌, refl, ap, ◌∙◌}
use mathlib.Core.List.{[], ◌∷◌}
use native.Mathlib.Omega.{arith}
use Rattle.wire.specs.Front.{front}
use Rattle.wire.proofs.FrontLaws.{front-none}
use Rattle.wire.specs.Numbers.{digits}
use Rattle.script_writing.specs.Hex.{hex_letter, hex_pair, hex_digits}
use Rattle.script_writing.proofs.DigitLaws.{length-hex_digits, filled-after}
use Rattle.script_writing.proofs.bytes.put_pair.Goals as goal

pub returns : goal.returns
unfolding hex_digits hex_pair digits
returns c =
    let out = c.args.out.now in
    let b = c.args.b in
    let high : b / 16 % 16 ≡ b / 16 = omega arith in
    filled-after (λ n. hex_digits n b) (λ n. length-hex_digits n b) [] out out c.fill_digits.new.part 0 2 refl (omega arith) (front-none out) (rw c.from.ensures at c.fill_digits.ensures)
    ∙ ap (λ h. front (hex_letter h ∷ hex_letter (b % 16) ∷ []) out) high
