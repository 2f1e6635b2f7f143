-- `block_stop` keeps the state `Stopping` from one extension to the next. Assumes nothing.
use mathlib.Core.Path.{◌≡◌}
use Rattle.fingerprint_stops.proofs.WalkLaws.{Stopping}
use Rattle.fingerprint_stops.proofs.block_stop.Given as goal

abbrev pub invariant-loop-header : goal.invariant-loop-header
invariant-loop-header l =
    record {
      same : l.headers.hello.now ≡ l.hello;
      stopping : Stopping l.hello l.block l.headers.at l.count l.types l.ids;
    }
