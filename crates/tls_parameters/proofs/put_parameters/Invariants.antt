-- The loop keeps `Writing`: what is left are the parameters from the next one on. Assumes nothing.
use Rattle.wire.proofs.Writing.{Writing}
use lib.ListN.{drop}
use Rattle.tls_parameters.specs.Parameters.{parameters}
use Rattle.tls_parameters.specs.Writing.{sent_of}
use Rattle.tls_parameters.proofs.put_parameters.Given as goal

abbrev pub invariant-loop-p : goal.invariant-loop-p
invariant-loop-p l = Writing (parameters (sent_of l.placed l.scid l.tape)) (parameters (sent_of (drop l.p-index l.placed) l.scid l.tape)) l.initial.out l.out l.n
