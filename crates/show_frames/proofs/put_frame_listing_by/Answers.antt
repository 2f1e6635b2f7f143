-- `put_frame_listing_by` meets its contract: the stop is that of number and place. Assumes nothing.
use Rattle.show_frames.proofs.put_frame_listing_by.Goals as goal

pub returns : goal.returns
returns c = rw c.stop_from.ensures at c.put_all.ensures
