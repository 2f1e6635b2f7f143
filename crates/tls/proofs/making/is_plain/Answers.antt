-- The loop keeps: `plain` is the test of the bytes before the next one. Assumes nothing.
use Rattle.tls.proofs.NameLaws.{plain-none, plain_more}
use Rattle.tls.proofs.making.is_plain.Goals as goal

pub loop-b-init : goal.loop-b-init
loop-b-init c = plain-none

pub loop-b-preserved : goal.loop-b-preserved
loop-b-preserved c =
    let loop = c.loop-b in
    rw loop.invariant (plain_more c.args.name.now loop.b-index c.loop-b-test.true)
