-- `be16` gives the number of the first two bytes. Assumes nothing.
use native.Mathlib.Omega.{arith}
use Rattle.wire.proofs.NumberLaws.{number-two}
use Rattle.wire.proofs.be16.Goals as goal

pub returns : goal.returns
returns c = omega (arith, number-two c.args.b.now c.requires, c.from_be_bytes.ensures)
