-- The loop keeps `Later`: the ids are distinct exactly where those still to come are. Assumes nothing.
use Rattle.fingerprint_parameters.proofs.LaterLaws.{Later}
use Rattle.fingerprint_parameters.proofs.each_among_later.Given as goal

abbrev pub invariant-loop-id : goal.invariant-loop-id
invariant-loop-id l = Later l.body l.parameters.rest.now
