-- `agrees` asks at each place of the piece: after i turns it has asked at the first i. Assumes nothing.
use mathlib.Core.Path.{◌≡◌, refl}
use native.Mathlib.Omega.{arith}
use lib.ListN.{length}
use Rattle.frames.specs.Stream.{each}
use Rattle.frames.specs.Buffers.{agrees_at, agreeing}
use Rattle.frames.proofs.EachLaws.{each_more}
use Rattle.frames.proofs.joining.agrees.Goals as goal

pub loop-i-init : goal.loop-i-init
unfolding each
loop-i-init c = refl

pub loop-i-preserved : goal.loop-i-preserved
loop-i-preserved c =
    let l = c.loop-i in
    let a = c.args in
    rw l.invariant (each_more (agrees_at a.piece.now a.out.now a.marks.now) l.i)

pub returns : goal.returns
unfolding agreeing
returns c =
    let l = c.loop-i in
    let e : l.i ≡ length c.args.piece.now = omega arith in
    rw e at l.invariant
