-- `script_writing::numbers::put_id` meets its contract: as many digits are written as the number has. Assumes nothing.
use Prim.Native.Nat.{ℕ}
use mathlib.Core.Path.{ap}
use mathlib.Core.List.{◌∷◌}
use Rattle.script.specs.Scan.{space}
use Rattle.script_writing.proofs.ShownLaws.{written_as}
use Rattle.script_writing.specs.Hex.{hex_digits, hex_width, id_text}
use Rattle.script_writing.proofs.numbers.put_id.Goals as goal

pub returns : goal.returns
unfolding id_text
returns c =
    let v = c.args.v in
    let width = c.hex_width in
    let put = c.put_digits in
    written_as (space ∷ hex_digits width.result v) (space ∷ hex_digits (hex_width v) v) put.result c.args.out.now put.new.out
    (ap (λ (n : ℕ). space ∷ hex_digits n v) width.ensures.0) put.ensures
