-- The answer of the command `set` as one number. Assumes nothing.
use Rattle.compare_calls.proofs.ReadingLaws.{text-coded}
use Rattle.compare_calls.proofs.compare_set.Goals as goal

pub returns : goal.returns
returns c = rw c.text.ensures (text-coded c.say_set.ensures)
