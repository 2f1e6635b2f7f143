-- The answer of the frame writer as one number. Assumes nothing.
use Rattle.crustdelta_c.proofs.CallLaws.{cut-coded}
use Rattle.crustdelta_c.proofs.crustdelta_frames.Goals as goal

pub returns : goal.returns
returns c = rw c.coded.ensures (cut-coded c.write_frames.ensures)
