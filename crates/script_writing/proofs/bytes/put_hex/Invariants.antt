-- `put_hex` meets its contract: the digits of the bytes passed stand at the front of the output. Assumes nothing.
use mathlib.Core.Path.{◌≡◌}
use lib.ListN.{take}
use Rattle.wire.specs.Front.{front}
use Rattle.script_writing.specs.Hex.{hex_text}
use Rattle.script_writing.proofs.bytes.put_hex.Given as goal

abbrev pub invariant-loop-i : goal.invariant-loop-i
invariant-loop-i l = l.out ≡ front (hex_text (take l.i l.bytes)) l.initial.out
