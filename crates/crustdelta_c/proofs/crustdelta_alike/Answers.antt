-- The answer of `alike` as one number. Assumes nothing.
use mathlib.Core.Path.{◌≡◌, refl}
use mathlib.Core.Bool.{Bool, true, false, cond}
use Rattle.std.specs.Int.{from_bool}
use Rattle.crustdelta_c.proofs.crustdelta_alike.Goals as goal

bit : (b : Bool) → from_bool b ≡ cond b 1 0
bit true = refl
bit false = refl

pub returns : goal.returns
returns c = rw (c.from.ensures, c.alike.ensures) (bit _)
