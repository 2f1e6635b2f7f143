-- A byte is its own one digit. Assumes nothing.
use Prim.Native.Nat.{◌%◌}
use mathlib.Core.Path.{◌≡◌}
use native.Mathlib.Omega.{arith}
use Rattle.wire.specs.Numbers.{digits}
use Rattle.wire.proofs.w8.Goals as goal

pub returns : goal.returns
unfolding digits
returns c =
    let v = c.args.v in
    let low : v % 256 ≡ v = omega (arith, c.ranges.v.fits) in
    rw (c.put_be.ensures, c.from.ensures, low)
