-- `put_bytes` copies: after i turns the first i elements stand at the front. Assumes nothing.
use mathlib.Core.Path.{◌≡◌, refl, ◌∙◌}
use native.Mathlib.Omega.{arith}
use lib.ListN.{length}
use lib.Seq.{take-length}
use Rattle.wire.proofs.FrontLaws.{front-none, front-more}
use Rattle.wire.proofs.put_bytes.Goals as goal

pub loop-i-init : goal.loop-i-init
loop-i-init c = front-none _

pub loop-i-preserved : goal.loop-i-preserved
loop-i-preserved c =
    let l = c.loop-i in
    let a = c.args in
    rw l.invariant (front-more l.i a.src.now a.out.now (omega arith) (omega arith))

pub returns : goal.returns
returns c =
    let e : c.loop-i.i ≡ length c.args.src.now = omega arith in
    record { count = refl; output = c.loop-i.invariant ∙ rw (e, take-length) }
