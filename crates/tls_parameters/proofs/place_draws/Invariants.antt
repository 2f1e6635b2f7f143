-- The loop keeps `Drawn`: the first parameters are placed. Assumes nothing.
use Rattle.tls_parameters.proofs.OrderLaws.{Drawn}
use Rattle.tls_parameters.proofs.place_draws.Given as goal

abbrev pub invariant-loop-i : goal.invariant-loop-i
invariant-loop-i l = Drawn l.entries l.at l.placed l.next l.i
