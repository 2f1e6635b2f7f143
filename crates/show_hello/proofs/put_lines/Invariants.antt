-- `show_hello::put_lines` meets its contract: the lines so far stand in the output, and the others begin at the cursor. Assumes nothing.
use Prim.Native.Nat.{◌≤◌}
use mathlib.Core.Path.{◌≡◌}
use lib.ListN.{length}
use Rattle.show_lines.specs.Rows.{cursor_of}
use Rattle.show_marks.specs.Text.{stop_by}
use Rattle.show_hello.proofs.TurnLaws.{Going}
use Rattle.show_hello.proofs.put_lines.Given as goal

abbrev pub invariant-loop-c : goal.invariant-loop-c
invariant-loop-c l =
    (goal.iterator-loop-c).can_next l.c-iterator × (goal.iterator-loop-c).is_finite l.c-iterator × (l.c-iterator.hello.now ≡ l.hello)
    × (l.used ≤ length l.out) × (length l.out ≡ length l.initial.out)
    × Going l.hello (stop_by l.number l.stop) (cursor_of l.c-iterator.cursor) l.used l.initial.out l.out
