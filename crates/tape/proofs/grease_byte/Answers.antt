-- A byte's high half is below 16. Assumes nothing.
use native.Mathlib.Omega.{arith}
use Rattle.tape.specs.Tape.{grease_byte}
use Rattle.tape.proofs.grease_byte.Goals as goal

pub returns : goal.returns
unfolding grease_byte
returns c = omega arith
