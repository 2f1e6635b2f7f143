-- The answer of the splitter's second call as one number. Assumes nothing.
use Rattle.std.proofs.Common.{ap, ◌∙◌}
use Rattle.compare_calls.specs.Calls.{coded_next}
use Rattle.compare_calls.proofs.compare_next.Goals as goal

pub returns-in-Ok-Some : goal.returns-in-Ok-Some
returns-in-Ok-Some c = ap coded_next (rw (c.in-Ok-Some.is, c.in-Ok-Some.field-0-is) at c.next_record.ensures.is)

pub returns-in-Ok-None : goal.returns-in-Ok-None
returns-in-Ok-None c = ap coded_next (rw (c.in-Ok-None.is, c.in-Ok-None.field-0-is) at c.next_record.ensures.is)

pub returns-in-Err : goal.returns-in-Err
returns-in-Err c = c.coded.ensures ∙ ap coded_next (rw c.in-Err.is at c.next_record.ensures.is)
