-- `put_bytes` copies: after i turns the first i elements stand at the front. Assumes nothing.
use mathlib.Core.Path.{◌≡◌}
use lib.ListN.{take}
use Rattle.wire.specs.Front.{front}
use Rattle.wire.proofs.put_bytes.Given as goal

abbrev pub invariant-loop-i : goal.invariant-loop-i
invariant-loop-i l = l.out ≡ front (take l.i l.src) l.initial.out
