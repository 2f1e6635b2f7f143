-- The sum of `grease_tp_id` is that of its definition, below 2^61 + 2^58 + 31. Assumes nothing.
use mathlib.Core.Path.{refl}
use native.Mathlib.Omega.{arith}
use Rattle.tape.specs.Tape.{grease_id, raised}
use Rattle.tape.proofs.grease_tp_id.Goals as goal

pub returns : goal.returns
unfolding grease_id raised
returns c = (refl, omega arith)
