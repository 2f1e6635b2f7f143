-- `join_frame` places the piece of the frame that it reads among those that the buffers carry. Assumes nothing.
use Rattle.frames.specs.Read.{FrameFound}
use Rattle.std.specs.Prelude.{Ok}
use Rattle.frames.specs.declared.reading.Frame.TheVariants as frame
use Rattle.frames.proofs.StepLaws.{step-padding, step-ping, step-placed, step-unlaid}
use Rattle.std.proofs.lemmas.Result.{err_from_is_err_and}
use Rattle.frames.proofs.joining.join_frame.Goals as goal
use Rattle.frames.proofs.joining.join_frame.Goals.{In-Crypto}

found : (c : In-Crypto) →
    let args = c.args in
    FrameFound args.input.now (Ok (frame.Crypto c.in-Crypto.c))
found c = rw c.in-Crypto.is at c.in_ok-read_frame.ensures

pub returns-in-Padding : goal.returns-in-Padding
returns-in-Padding c = step-padding c.requires.2 (rw c.in-Padding.is at c.in_ok-read_frame.ensures)

pub returns-in-Ping : goal.returns-in-Ping
returns-in-Ping c = step-ping c.requires.2 (rw c.in-Ping.is at c.in_ok-read_frame.ensures)

pub returns-in_ok-placed-in-Crypto : goal.returns-in_ok-placed-in-Crypto
returns-in_ok-placed-in-Crypto c =
    let pre = c.requires in
    let earlier = (goal.at.returns-in_ok-placed-in-Crypto c).In-Crypto in
    step-placed pre.2 (found earlier) pre.0 pre.1 c.in_ok-placed-in-Crypto.ensures c.max.ensures

pub returns-in_err-placed-in-Crypto : goal.returns-in_err-placed-in-Crypto
returns-in_err-placed-in-Crypto c =
    let pre = c.requires in
    let earlier = (goal.at.returns-in_err-placed-in-Crypto c).In-Crypto in
    let p = err_from_is_err_and c.from_residual-in_err-placed-in-Crypto.result c.from_residual-in_err-placed-in-Crypto.ensures.1 in
    rw (p.1, p.2) (step-unlaid pre.2 (found earlier) pre.0 pre.1 c.in_err-placed-in-Crypto.ensures)
