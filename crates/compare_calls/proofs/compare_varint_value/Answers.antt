-- The answer of `read` as one number, by its value. Assumes nothing.
use Rattle.std.proofs.Common.{ap}
use Rattle.compare_calls.specs.Sums.{coded_value}
use Rattle.compare_calls.proofs.compare_varint_value.Goals as goal

pub returns-in-Ok : goal.returns-in-Ok
returns-in-Ok c = ap coded_value (rw c.in-Ok.is at c.read.ensures.is)

pub returns-in-Err : goal.returns-in-Err
returns-in-Err c = rw c.number.ensures.is (ap coded_value (rw c.in-Err.is at c.read.ensures.is))
