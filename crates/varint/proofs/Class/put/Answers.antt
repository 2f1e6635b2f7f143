-- `put` writes the form of each class: the number that it writes has the class above the value. Assumes nothing.
use Prim.Native.Nat.{◌+◌}
use mathlib.Core.Path.{◌≡◌, refl}
use native.Mathlib.Omega.{arith}
use Rattle.varint.specs.Varint.{form}
use Rattle.varint.proofs.Class.put.Goals as goal

pub returns-in-One : goal.returns-in-One
unfolding form
returns-in-One c =
    let z : 0 + c.args.value ≡ c.args.value = omega arith in
    rw (c.in-One.is, z) c.put_be.ensures

pub returns-in-Two : goal.returns-in-Two
unfolding form
returns-in-Two c = rw (c.in-Two.is, c.put_be-in-Two.ensures, c.ceiling.ensures) refl

pub returns-in-Four : goal.returns-in-Four
unfolding form
returns-in-Four c = rw (c.in-Four.is, c.put_be-in-Four.ensures, c.ceiling-in-Four.ensures) refl

pub returns-in-Eight : goal.returns-in-Eight
unfolding form
returns-in-Eight c = rw (c.in-Eight.is, c.put_be-in-Eight.ensures, c.ceiling-in-Eight.ensures) refl
