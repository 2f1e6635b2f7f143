-- The loop keeps `Laying`: the pieces placed and the frames still to be read give what all frames give. Assumes nothing.
use Prim.Native.Nat.{ℕ, ◌+◌}
use mathlib.Core.Path.{sym, ◌∙◌}
use lib.ListN.{drop}
use Rattle.wire.proofs.ListLaws.{part_to_end}
use Rattle.std.specs.Prelude.{Ok}
use Rattle.frames.specs.Buffers.{Stepping, Padding}
use Rattle.frames.proofs.JoinLaws.{Laying, starts, goes_on, stops, ends-whole, ends-gap}
use Rattle.frames.proofs.PaddingLaws.{passes_over}
use Rattle.frames.proofs.joining.join_all.Goals as goal
use Rattle.frames.proofs.joining.join_all.Goals.{After-padding-at, In-Ok}

stepped : (c : In-Ok) →
    let args = c.args in
    let loop = c.loop-at in
    let join-frame = c.join_frame in
    Stepping (drop loop.at args.frames.now) loop.out loop.marks loop.end (Ok c.in-Ok.step) join-frame.new.out join-frame.new.marks
stepped c =
    let args = c.args in
    let loop = c.loop-at in
    let join-frame = c.join_frame in
    rw (part_to_end args.frames.now loop.at, c.in-Ok.is) at join-frame.ensures

-- the frame's bytes, and where the loop stands after it
abbrev used : (c : In-Ok) → ℕ
used c = c.in-Ok.step.used

gone : (c : In-Ok) →
    let args = c.args in
    let loop = c.loop-at in
    let join-frame = c.join_frame in
    Laying args.frames.now args.out.now args.marks.now join-frame.new.out join-frame.new.marks (loop.at + used c) c.in-Ok.step.end
gone c =
    let loop = c.loop-at in
    let loop-test = c.loop-at-test in
    let join-frame = c.join_frame in
    goes_on loop.invariant loop-test.true (stepped c) join-frame.auto.out join-frame.auto.marks

-- the PADDING after it
passed : (c : After-padding-at) →
    let args = c.args in
    let loop = c.loop-at in
    Padding c.padding-at.result (drop (loop.at + c.in-Ok.step.used) args.frames.now)
passed c =
    let args = c.args in
    let loop = c.loop-at in
    rw (part_to_end args.frames.now (loop.at + c.in-Ok.step.used)) at c.padding-at.ensures

pub loop-at-init : goal.loop-at-init
loop-at-init c =
    let start = c in
    starts start.args.frames.now start.args.out.now start.args.marks.now start.requires.2 start.requires.3

pub loop-at-preserved-then-step-eq1 : goal.loop-at-preserved-then-step-eq1
loop-at-preserved-then-step-eq1 c = passes_over (gone (goal.at.loop-at-preserved-then-step-eq1 c).In-Ok) (passed c)

pub loop-at-preserved : goal.loop-at-preserved
loop-at-preserved c = gone (goal.at.loop-at-preserved c).In-Ok

pub returns-in-Err : goal.returns-in-Err
returns-in-Err c =
    let args = c.args in
    let loop = c.loop-at in
    let loop-test = c.loop-at-test in
    let join-frame = c.join_frame in
    let s = rw (part_to_end args.frames.now loop.at, c.in-Err.is) at join-frame.ensures in
    stops loop.invariant loop-test.true s

pub returns-then-all_marked : goal.returns-then-all_marked
returns-then-all_marked c =
    let pre = c.requires in
    let loop = c.loop-at in
    let loop-test = c.loop-at-test in
    ends-whole loop.invariant loop-test.false pre.0 pre.1 (sym c.all_marked.ensures ∙ c.if-all_marked.true)

pub returns-else-all_marked : goal.returns-else-all_marked
returns-else-all_marked c =
    let pre = c.requires in
    let loop = c.loop-at in
    let loop-test = c.loop-at-test in
    ends-gap loop.invariant loop-test.false pre.0 pre.1 (sym c.all_marked.ensures ∙ c.if-all_marked.false)
