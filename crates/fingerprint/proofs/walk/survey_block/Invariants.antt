-- `survey_block` keeps the state `Walking` from one extension to the next. Assumes nothing.
use mathlib.Core.Path.{◌≡◌}
use Rattle.fingerprint.specs.Code.{Walking}
use Rattle.fingerprint.proofs.walk.survey_block.Given as goal

abbrev pub invariant-loop-header : goal.invariant-loop-header
invariant-loop-header l =
    record {
      same : l.headers.hello.now ≡ l.hello;
      walking : Walking l.hello l.block l.headers.at l.count l.types l.marks.rests l.bodies l.ids l.id_count;
    }
