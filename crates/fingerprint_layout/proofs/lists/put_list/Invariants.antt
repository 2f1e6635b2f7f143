-- The loop keeps `Standing`: the numbers of the entries that were read stand in the output, and those still to come in the rest. Assumes nothing.
use Prim.Native.Nat.{ℕ, ◌*◌}
use mathlib.Core.List.{List}
use Rattle.fingerprint_bodies.specs.Entries.{front_entries}
use Rattle.fingerprint_bodies.proofs.YieldLaws.{Holds}
use Rattle.fingerprint_layout.specs.Layout.{little}
use Rattle.fingerprint_layout.proofs.PieceLaws.{Standing}
use Rattle.fingerprint_layout.proofs.lists.put_list.Given as goal

abbrev pub invariant-loop-number : goal.invariant-loop-number
invariant-loop-number g l =
    (left : List ℕ)
    × Holds g.E.Listed.form l.number-iterator.rest.now left
    × Standing (little 2) 2 (front_entries g.E.Listed.form l.list) left l.initial.out l.out l.k (2 * l.k)
