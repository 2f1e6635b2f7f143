-- `decimal_width` meets its contract: twenty digits are enough for a number below 2^64. Assumes nothing.
use mathlib.Core.Path.{◌∙◌}
use native.Mathlib.Omega.{arith}
use Rattle.script_writing.proofs.DigitLaws.{decimal-width-is, decimal-width-most}
use Rattle.script_writing.proofs.numbers.decimal_width.Goals as goal

pub returns : goal.returns
returns c =
    let is = c.width.ensures.is ∙ decimal-width-is c.args.n (omega arith) in
    (is, omega (arith, is, decimal-width-most c.args.n))
