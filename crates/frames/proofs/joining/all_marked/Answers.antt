-- `all_marked` asks at each place: after i turns it has asked at the first i. Assumes nothing.
use mathlib.Core.Path.{◌≡◌, refl}
use native.Mathlib.Omega.{arith}
use lib.ListN.{length}
use Rattle.frames.specs.Stream.{each}
use Rattle.frames.specs.Buffers.{marked_at, marked}
use Rattle.frames.proofs.EachLaws.{each_more}
use Rattle.frames.proofs.joining.all_marked.Goals as goal

pub loop-mark-init : goal.loop-mark-init
unfolding each
loop-mark-init c = refl

pub loop-mark-preserved : goal.loop-mark-preserved
loop-mark-preserved c =
    let l = c.loop-mark in
    let marks = c.args.marks.now in
    rw l.invariant (each_more (marked_at marks) l.mark-index)

pub returns : goal.returns
unfolding marked
returns c =
    let l = c.loop-mark in
    let e : l.mark-index ≡ length c.args.marks.now = omega arith in
    rw e at l.invariant
