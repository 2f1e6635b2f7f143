-- `first_extension` is where the fields end, or the hello. Assumes nothing.
use mathlib.Core.Path.{sym}
use Rattle.wire.specs.Refusals.{question}
use Rattle.ext_walk.proofs.StepLaws.{first-refused, first_found}
use Rattle.ext_walk.proofs.first_extension.Goals as goal

pub returns-in-Ok : goal.returns-in-Ok
returns-in-Ok c =
    let f = c.in-Ok.ensures in
    sym (first_found c.args.hello.now f.found c.in-Ok.head.block f.inside f.is f.block-is)

pub returns-in-Err : goal.returns-in-Err
returns-in-Err c = sym (first-refused c.args.hello.now (question c.in-Err.field-0) c.in-Err.ensures)
