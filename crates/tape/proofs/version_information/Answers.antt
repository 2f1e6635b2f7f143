-- The version's bytes are its digits, and the four between are what `grease_byte` gave. Assumes nothing.
use Prim.Native.Nat.{◌/◌, ◌%◌}
use mathlib.Core.Path.{◌≡◌}
use native.Mathlib.Omega.{arith}
use Rattle.tape.specs.Tape.{version_information}
use Rattle.tape.proofs.DrawnNumbers.{four-digits, grease-byte-low}
use Rattle.tape.proofs.version_information.Goals as goal

pub returns : goal.returns
unfolding version_information
returns c =
    let draw = c.args.draw in
    let high : c.args.version / 16777216 % 256 ≡ c.args.version / 16777216 = omega arith in
    rw (
      four-digits c.args.version (omega arith),
      c.to_be_bytes.ensures,
      c.grease_byte.ensures,
      c.grease_byte-2.ensures,
      c.grease_byte-3.ensures,
      c.grease_byte-4.ensures,
      c.to_le_bytes.ensures,
      grease-byte-low draw,
      grease-byte-low (draw / 256),
      grease-byte-low (draw / 65536),
      grease-byte-low (draw / 16777216),
      high,
    )
