-- The loop keeps that what is left to compare answers as the whole does. Assumes nothing.
use mathlib.Core.Path.{◌≡◌}
use lib.ListN.{length}
use Rattle.alike.specs.Alike.{same_list, same_numbers}
use Rattle.alike.specs.Code.{names_of}
use Rattle.alike.proofs.names.same_protocols.Given as goal

abbrev pub invariant-loop-s : goal.invariant-loop-s
invariant-loop-s l =
    let x = l.s-iterator.a.rest.now in
    let y = l.s-iterator.b.rest.now in
    record {
      same_length : length x ≡ length y;
      left : same_list same_numbers (names_of l.a l.x) (names_of l.b l.y) ≡ same_list same_numbers (names_of l.a x) (names_of l.b y);
    }
