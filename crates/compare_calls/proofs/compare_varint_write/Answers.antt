-- The answer of `write` as one number, and the output as `write` left it. Assumes nothing.
use Rattle.compare_calls.proofs.SumLaws.{written-coded}
use Rattle.compare_calls.proofs.compare_varint_write.Goals as goal

pub returns : goal.returns
returns c = rw c.coded.ensures (written-coded c.write.ensures)
