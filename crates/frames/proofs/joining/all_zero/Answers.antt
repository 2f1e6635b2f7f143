-- `all_zero` asks at each place: after i turns it has asked at the first i. Assumes nothing.
use mathlib.Core.Path.{◌≡◌, refl}
use native.Mathlib.Omega.{arith}
use lib.ListN.{length}
use Rattle.frames.specs.Stream.{each}
use Rattle.frames.specs.Buffers.{zero_at, zeros}
use Rattle.frames.proofs.EachLaws.{each_more}
use Rattle.frames.proofs.joining.all_zero.Goals as goal

pub loop-b-init : goal.loop-b-init
unfolding each
loop-b-init c = refl

pub loop-b-preserved : goal.loop-b-preserved
loop-b-preserved c =
    let l = c.loop-b in
    let block = c.args.block.now in
    rw l.invariant (each_more (zero_at block) l.b-index)

pub returns : goal.returns
unfolding zeros
returns c =
    let l = c.loop-b in
    let e : l.b-index ≡ length c.args.block.now = omega arith in
    rw e at l.invariant
