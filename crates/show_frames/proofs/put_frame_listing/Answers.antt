-- `put_frame_listing` meets its contract: the number is that of the refusal. Assumes nothing.
use Rattle.show_frames.proofs.put_frame_listing.Goals as goal

pub returns : goal.returns
returns c = rw c.number_of.ensures at c.put_all.ensures
