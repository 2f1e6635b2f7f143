-- The bytes copied are the part of the tape that `rand_bytes-part` names. Assumes nothing.
use Prim.Native.Nat.{◌+◌, ◌-◌}
use mathlib.Core.Path.{◌≡◌}
use native.Mathlib.Omega.{arith}
use Rattle.tape.proofs.DrawLaws.{rand_bytes-part}
use Rattle.tape.proofs.rand_bytes.Goals as goal

pub returns : goal.returns
returns c =
    let start = c in
    let args = start.args in
    let e : args.at + args.n - args.at ≡ args.n = omega arith in
    rw (rand_bytes-part args.n args.tape.now args.at start.requires.1) (rw e at c.put_bytes.ensures)
