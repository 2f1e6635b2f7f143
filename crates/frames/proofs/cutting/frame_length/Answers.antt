-- `frame_length` gives the length of a frame: type, two widths, data. Assumes nothing.
use Rattle.frames.proofs.CutLaws.{frame-size}
use Rattle.frames.proofs.cutting.frame_length.Goals as goal

pub returns : goal.returns
returns c =
    let args = c.args in
    frame-size args.offset args.bytes.now _ _ c.varint_length.ensures.0 c.varint_length-2.ensures.0
