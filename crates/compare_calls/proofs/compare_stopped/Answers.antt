-- The number and the place of a stop as one number. Assumes nothing.
use Rattle.std.proofs.Common.{ap, arith}
use Rattle.compare_calls.specs.Reading.{coded_stop}
use Rattle.compare_calls.proofs.compare_stopped.Goals as goal

pub overflow_mul-result : goal.overflow_mul-result
overflow_mul-result c = omega (arith, c.number.ensures.known)

pub overflow_add-result : goal.overflow_add-result
overflow_add-result c = omega (arith, c.number.ensures.known, rw c.in-Some.is at c.stopped_at.ensures.stop_bounds)

pub returns-in-None : goal.returns-in-None
returns-in-None c = ap coded_stop (rw c.in-None.is at c.stopped_at.ensures.result_value)

pub returns-in-Some : goal.returns-in-Some
returns-in-Some c = rw c.number.ensures.is (ap coded_stop (rw c.in-Some.is at c.stopped_at.ensures.result_value))
