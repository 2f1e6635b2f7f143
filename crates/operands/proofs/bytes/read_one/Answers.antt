-- `read_one` gives no more bytes than the output has. Assumes nothing.
use native.Mathlib.Omega.{arith}
use Rattle.operands.proofs.bytes.read_one.Goals as goal

pub returns-in-Bytes : goal.returns-in-Bytes
returns-in-Bytes g c = omega (arith, rw (c.in_ok-n.was, c.in-Bytes.is) at c.read_piece.ensures.within)
