use mathlib.Core.Path.{◌≡◌, ap}
use Prim.Native.Nat.{ℕ, ◌+◌, ◌-◌}
use lib.ListN.{take, drop}
use native.Mathlib.Omega.{arith}
use Rattle.fingerprint.proofs.report.part.Goals as goal

pub returns : goal.returns
returns c =
    let a = c.args.s.start in
    let n = c.args.s.length in
    let e : a + n - a ≡ n = omega arith in
    ap (λ (k : ℕ). take k (drop a c.args.hello.now)) e
