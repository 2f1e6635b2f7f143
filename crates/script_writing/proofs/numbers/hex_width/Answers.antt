-- `hex_width` meets its contract: sixteen digits are enough for a number below 2^64. Assumes nothing.
use mathlib.Core.Path.{◌∙◌}
use native.Mathlib.Omega.{arith}
use Rattle.script_writing.proofs.DigitLaws.{hex-width-is, hex-width-most}
use Rattle.script_writing.proofs.numbers.hex_width.Goals as goal

pub returns : goal.returns
returns c =
    let is = c.width.ensures.is ∙ hex-width-is c.args.v (omega arith) in
    (is, omega (arith, is, hex-width-most c.args.v))
