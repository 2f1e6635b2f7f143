-- `repeated_at` keeps `Repeating` from one parameter to the next. Assumes nothing.
use Rattle.fingerprint_stops.proofs.RepeatLaws.{Repeating}
use Rattle.fingerprint_stops.proofs.body.repeated_at.Given as goal

abbrev pub invariant-loop-id : goal.invariant-loop-id
invariant-loop-id l = Repeating l.body l.parameters.rest.now l.at l.k
