-- The answer of the joiner as one number. Assumes nothing.
use Rattle.crustdelta_c.proofs.CallLaws.{joined-coded}
use Rattle.crustdelta_c.proofs.crustdelta_join.Goals as goal

pub returns : goal.returns
returns c = rw c.coded.ensures (joined-coded c.reassemble_crypto.ensures)
