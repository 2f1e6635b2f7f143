-- The loop keeps: `plain` is the test of the bytes before the next one. Assumes nothing.
use mathlib.Core.Path.{◌≡◌}
use lib.ListN.{take}
use Rattle.tls.specs.Make
use Rattle.tls.proofs.making.is_plain.Given as goal

abbrev pub invariant-loop-b : goal.invariant-loop-b
invariant-loop-b l = l.plain ≡ Make.plain (take l.b-index l.name)
