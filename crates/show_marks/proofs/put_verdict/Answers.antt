-- `show_marks::put_verdict` meets its contract: the number is that of the refusal. Assumes nothing.
use Rattle.show_marks.proofs.put_verdict.Goals as goal

pub returns : goal.returns
returns c = rw c.number_of.ensures at c.put_verdict_by.ensures
