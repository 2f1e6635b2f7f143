-- The loop keeps `Summing`: what is still to be read gives the rest of the sum. Assumes nothing.
use Rattle.compare_calls.proofs.SumLaws.{Summing}
use Rattle.compare_calls.proofs.compare_varint_sum.Given as goal

abbrev pub invariant-loop-value : goal.invariant-loop-value
invariant-loop-value l = Summing l.input l.value-iterator.0.now l.sum
