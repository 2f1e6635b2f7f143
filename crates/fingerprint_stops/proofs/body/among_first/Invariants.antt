-- The loop keeps: the id is among those of the first k parameters exactly where it is among those of them still to come. Assumes nothing.
use mathlib.Core.Path.{◌≡◌}
use Rattle.wire.specs.Sums.{member}
use Rattle.fingerprint_stops.specs.Code.{first_ids}
use Rattle.fingerprint_stops.proofs.body.among_first.Given as goal

abbrev pub invariant-loop-other : goal.invariant-loop-other
invariant-loop-other l = member l.id (first_ids l.k l.body) ≡ member l.id (first_ids l.other-iterator.n l.other-iterator.iter.rest.now)
