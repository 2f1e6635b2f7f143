-- `put_all` meets its contract: the verdict and the lines are written one after the other. Assumes nothing.
use mathlib.Core.Path.{refl}
use Rattle.show_marks.specs.Text.{stop_by}
use Rattle.show_frames.proofs.TurnLaws.{listing-is}
use Rattle.show_frames.proofs.put_all.Goals as goal

pub returns : goal.returns
returns c =
    let args = c.args in
    let verdict = c.put_verdict_by-n in
    let lines = c.put_lines in
    listing-is args.frames.now (stop_by args.number args.stop) verdict.result lines.result _ args.out.now verdict.new.out
    lines.new.out verdict.auto.out verdict.ensures refl lines.ensures
