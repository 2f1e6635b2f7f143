-- The sum of `payload_length` is that of its definition, and a remainder by 51 is at most 50. Assumes nothing.
use mathlib.Core.Path.{refl}
use native.Mathlib.Omega.{arith}
use Rattle.tape.specs.Tape.{payload_length}
use Rattle.tape.proofs.payload_length.Goals as goal

pub returns : goal.returns
unfolding payload_length
returns c = (refl, omega arith, omega arith)
