-- The loop keeps `Filled`: the numbers of the entries that were read stand in the array, and those still to come in the rest. Assumes nothing.
use mathlib.Core.List.{List}
use Prim.Native.Nat.{ℕ}
use Rattle.fingerprint_bodies.specs.Entries.{front_entries}
use Rattle.fingerprint_bodies.proofs.YieldLaws.{Holds}
use Rattle.fingerprint_lists.proofs.FillLaws.{Filled}
use Rattle.fingerprint_lists.proofs.numbers.Given as goal

abbrev pub invariant-loop-number : goal.invariant-loop-number
invariant-loop-number g l =
    (left : List ℕ) × Holds g.E.Listed.form l.number-iterator.rest.now left × Filled 64 0 (front_entries g.E.Listed.form l.list) l.count l.items left
