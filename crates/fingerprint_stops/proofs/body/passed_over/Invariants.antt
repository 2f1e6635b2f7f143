-- The loop keeps: what the definition passes over from the start is the place and what it passes over from there. Assumes nothing.
use mathlib.Core.Path.{◌≡◌}
use Prim.Native.Nat.{◌+◌, ◌-◌, ◌≤◌}
use lib.ListN.{length, drop}
use Rattle.fingerprint.specs.Code.{meant}
use Rattle.fingerprint_stops.specs.Stops.{passed}
use Rattle.fingerprint_stops.proofs.body.passed_over.Given as goal

abbrev pub invariant-loop-k : goal.invariant-loop-k
invariant-loop-k l =
    (l.at ≤ length l.list) × (passed (meant l.kind) l.n l.list ≡ l.at + passed (meant l.kind) (l.n - l._k) (drop l.at l.list))
