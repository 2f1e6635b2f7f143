-- The sums, one after the other, are the sum of one place of each list. Assumes nothing.
use Rattle.compare_calls.specs.Reading.{sum_at}
use Rattle.compare_calls.proofs.picked.Goals as goal

pub returns : goal.returns
unfolding sum_at
returns c = rw (c.from.ensures, c.from-2.ensures, c.from-3.ensures, c.from-4.ensures, c.from-5.ensures, c.from-6.ensures)
