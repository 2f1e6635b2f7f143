-- `fill_digits` meets its contract: the digits of what is left, and then those written, are the number's digits. Assumes nothing.
use native.Mathlib.Omega.{arith}
use Rattle.script_writing.specs.Hex.{hex_letter}
use Rattle.script_writing.proofs.DigitLaws.{fill-next, fill_end}
use Rattle.script_writing.proofs.numbers.fill_digits.Goals as goal

pub loop-k-preserved : goal.loop-k-preserved
loop-k-preserved g c =
    let l = c.loop-k in
    fill-next g.row.BASE hex_letter c.args.n c.args.part.now l.part l.rest l.k _ l.invariant c.loop-k-test.true c.hex_letter.ensures

pub returns : goal.returns
returns g c =
    let l = c.loop-k in
    fill_end g.row.BASE hex_letter c.args.n c.args.part.now l.part l.rest l.k l.invariant (omega arith)
