-- `say_show_frames` lists the frames with the joiner's stop, which has room. Assumes nothing.
use mathlib.Core.Path.{◌∙◌}
use borrow.Author.Rules.{rules}
use Rattle.wire.specs.Stops.{stop_of}
use Rattle.answers_reader.proofs.ListingLaws.{shows-frames, roomy-stops}
use Rattle.answers_reader.proofs.say_show_frames.Goals as goal

pub returns : goal.returns
returns c =
    let args = c.args in
    let stop = c.joiner_stopped_at-stop in
    let put = c.put_frame_listing in
    let first = c.room-buffer.result in
    let second = c.room-marks.result in
    shows-frames args.frames.now (stop_of stop.result) put.result args.out.now put.new.out
    (stop.ensures.is ∙ roomy-stops args.frames.now first second (search rules) (search rules)) put.ensures
