-- Version first, then the bytes drawn, to the part after it. Assumes nothing.
use Prim.Native.Nat.{◌≤◌}
use mathlib.Core.List.{◌++◌}
use lib.ListN.{length}
use Rattle.wire.specs.Numbers.{digits}
use Rattle.wire.proofs.NumberLaws.{length_digits}
use Rattle.wire.proofs.Writing.{filled, first-written, last_written}
use Rattle.tape.specs.Tape.{rand_bytes}
use Rattle.tls.proofs.HelloLaws.{length-opening}
use native.Mathlib.Omega.{arith}
use Rattle.tls.proofs.making.put_random.Goals as goal

pub returns : goal.returns
returns c =
    let w16 = c.w16 in
    let rand-bytes = c.rand_bytes in
    let start = c in
    let tape = start.args.tape.now in
    let version = digits 256 2 771 in
    let random = rand_bytes 32 tape 0 in
    let room : length (version ++ random) ≤ length start.args.out.now = omega (arith, start.requires.0, length-opening tape) in
    (last_written random (first-written version random room (filled (length_digits 256 2 771) w16.ensures)) rand-bytes.ensures).output
