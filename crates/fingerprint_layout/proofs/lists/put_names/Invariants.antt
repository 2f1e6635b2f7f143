-- The loop keeps `Names` and `Standing`: the ranges of the names that were read stand in the output. Assumes nothing.
use Prim.Native.Nat.{ℕ, ◌+◌, ◌*◌}
use mathlib.Core.List.{List}
use lib.ListN.{length}
use Rattle.fingerprint_lists.proofs.WalkLaws.{name_spans, Names, spans_at}
use Rattle.fingerprint_layout.proofs.PieceLaws.{Standing, range_bytes}
use Rattle.fingerprint_layout.proofs.lists.put_names.Given as goal

abbrev pub invariant-loop-length : goal.invariant-loop-length
invariant-loop-length l =
    (left : List ℕ)
    × Names (l.start + length l.list) l.at l.length-iterator.rest.now left
    × Standing range_bytes 4 (name_spans l.start l.list) (spans_at l.at left) l.initial.out l.out l.k (4 * l.k)
