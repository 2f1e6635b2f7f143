-- `put_name` meets its contract: a number that is kept free has the second of the spare words. Assumes nothing.
use Prim.Native.Nat.{ℕ}
use mathlib.Core.Path.{◌≡◌, refl}
use mathlib.Core.Bool.{Bool, true, false, cond}
use mir.Val.{bool_byte}
use Rattle.registries.proofs.Registry.put_name.Goals as goal

place : (grease : Bool) → bool_byte grease ≡ cond {A = ℕ} grease 1 0
place true = refl
place false = refl

pub returns : goal.returns
returns c = rw (c.from.ensures, place c.args.grease) at c.put_name_by.ensures
