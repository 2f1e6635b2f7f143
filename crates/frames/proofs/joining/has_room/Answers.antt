-- `has_room` asks question 10. Assumes nothing.
use mathlib.Core.Path.{◌∙◌}
use borrow.Author.Tests.{lt-leb}
use Rattle.frames.proofs.RoomLaws.{short-output, by-marks}
use Rattle.frames.proofs.joining.has_room.Goals as goal

pub returns-then-out-ge-LIMIT : goal.returns-then-out-ge-LIMIT
returns-then-out-ge-LIMIT c = by-marks c.args.out.now c.args.marks.now c.if-out-ge-LIMIT.true

pub returns-else-out-ge-LIMIT : goal.returns-else-out-ge-LIMIT
returns-else-out-ge-LIMIT c =
    let short = c.if-out-ge-LIMIT.false in
    lt-leb _ _ short ∙ short-output c.args.out.now c.args.marks.now short
