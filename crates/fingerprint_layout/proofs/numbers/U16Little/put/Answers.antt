-- The two bytes, the lowest first, over the front. Assumes nothing.
use Rattle.wire.specs.Front.{front}
use Rattle.fingerprint_layout.specs.Layout.{little}
use Rattle.fingerprint_layout.proofs.numbers.U16Little.put.Goals as goal

pub returns : goal.returns
unfolding little front
returns c = rw (c.copy_from_slice.ensures.after, c.to_le_bytes.ensures)
