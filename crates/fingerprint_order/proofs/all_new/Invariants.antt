-- The loop keeps: each id before the next pair is greater than the one before it. Assumes nothing.
use Rattle.std.specs.Slice.Iter.{windows_rest}
use Rattle.fingerprint_order.proofs.WindowLaws.{Risen}
use Rattle.fingerprint_order.proofs.all_new.Given as goal

abbrev pub invariant-loop-pair : goal.invariant-loop-pair
invariant-loop-pair l = Risen (windows_rest l.initial.pair-iterator) l.pair-iterator
