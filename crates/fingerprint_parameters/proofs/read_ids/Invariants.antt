-- The loop keeps `Reading`. A store past the end of the array would change nothing, so both branches store alike. Assumes nothing.
use Rattle.fingerprint_parameters.proofs.ReadingLaws.{Reading}
use Rattle.fingerprint_parameters.proofs.read_ids.Given as goal

abbrev pub invariant-loop-id : goal.invariant-loop-id
invariant-loop-id l = Reading l.body l.initial.ids l.ids l.parameters.rest.now l.k
