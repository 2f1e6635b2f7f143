-- `put_lines` meets its contract: the lines so far stand in the output, and the others begin where they end. Assumes nothing.
use Prim.Native.Nat.{◌-◌, ◌≤◌}
use mathlib.Core.Path.{◌≡◌}
use lib.ListN.{length}
use Rattle.show_marks.specs.Text.{stop_by}
use Rattle.show_frames.proofs.TurnLaws.{Going}
use Rattle.show_frames.proofs.put_lines.Given as goal

abbrev pub invariant-loop-out : goal.invariant-loop-out
invariant-loop-out l =
    (l.lines.frames.now ≡ l.frames) × (l.lines.at ≤ length l.frames) × (l.used ≤ length l.out) × (length l.out ≡ length l.initial.out)
    × Going l.frames (stop_by l.number l.stop) l.lines.at l.used l.initial.out l.out

abbrev pub decreases-loop-out : goal.decreases-loop-out
decreases-loop-out l = length l.frames - l.lines.at
