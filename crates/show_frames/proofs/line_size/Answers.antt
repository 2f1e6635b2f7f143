-- `line_size` meets its contract: by what kind of frame is read. Assumes nothing.
use mathlib.Core.Path.{refl, ◌∙◌}
use Rattle.std.specs.Prelude.{Ok}
use Rattle.frames.specs.declared.reading.Frame.TheVariants as frame
use Rattle.script_writing.proofs.ShownLaws.{equal_count}
use Rattle.show_frames.specs.Frames.{zeros}
use Rattle.show_frames.proofs.FrameLaws.{size_is}
use Rattle.show_frames.proofs.line_size.Goals as goal

pub returns-in-Ok-Padding : goal.returns-in-Ok-Padding
unfolding zeros
returns-in-Ok-Padding c =
    let input = c.args.input.now in
    let there = rw c.in-Ok-Padding.field-0-is at c.in-Ok-Padding.is in
    size_is input _ (Ok frame.Padding) _ c.requires c.read_frame.ensures there (c.zeros.ensures ∙ equal_count 0 input)

pub returns-in-Ok-Ping : goal.returns-in-Ok-Ping
returns-in-Ok-Ping c =
    let there = rw c.in-Ok-Ping.field-0-is at c.in-Ok-Ping.is in
    size_is c.args.input.now _ (Ok frame.Ping) _ c.requires c.read_frame.ensures there refl

pub returns-in-Ok-Crypto : goal.returns-in-Ok-Crypto
returns-in-Ok-Crypto c =
    let there = rw c.in-Ok-Crypto.field-0-is at c.in-Ok-Crypto.is in
    size_is c.args.input.now _ (Ok (frame.Crypto c.in-Ok-Crypto.c)) _ c.requires c.read_frame.ensures there refl

pub returns-in-Err : goal.returns-in-Err
returns-in-Err c = size_is c.args.input.now _ _ _ c.requires c.read_frame.ensures c.in-Err.is refl
