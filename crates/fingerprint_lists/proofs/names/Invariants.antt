-- The loop keeps `Names` and `Filled`: the parts of the names that were read stand in the array. Assumes nothing.
use mathlib.Core.List.{List}
use Prim.Native.Nat.{ℕ, ◌+◌}
use lib.ListN.{length}
use Rattle.fingerprint_lists.specs.Arrays.{span}
use Rattle.fingerprint_lists.proofs.FillLaws.{Filled}
use Rattle.fingerprint_lists.proofs.WalkLaws.{name_spans, Names, spans_at}
use Rattle.fingerprint_lists.proofs.names.Given as goal

abbrev pub invariant-loop-length : goal.invariant-loop-length
invariant-loop-length l =
    (left : List ℕ) × Names (l.start + length l.list) l.at l.length-iterator.rest.now left × Filled 16 (span 0 0) (name_spans l.start l.list) l.count l.items (spans_at l.at left)
