-- The loop keeps `Left`: n bytes are counted, and what is still to be cut makes the others. Assumes nothing.
use Prim.Native.Nat.{◌+◌, ◌*◌}
use mathlib.Core.Path.{◌≡◌, sym, ap, ◌∙◌}
use lib.ListN.{length}
use Rattle.std.specs.Iterator.Adapters.{enumerate_source, enumerate_count}
use Rattle.std.specs.Slice.Iter.{chunks_rest}
use Rattle.frames.proofs.CutLaws.{Next, next-piece, starts, ends, goes_on, next_small}
use native.Mathlib.Omega.{arith}
use Rattle.frames.proofs.cutting.frames_length.Goals as goal
use Rattle.frames.proofs.cutting.frames_length.Goals.{In-Some}

next : (c : In-Some) →
    Next c.args.c c.args.hello.now c.in-Some.i c.loop-i.n c.in-Some.piece.now (chunks_rest (enumerate_source c.next.new.self))
next c =
    let loop = c.loop-i in
    let s = c.in-Some.ensures.steps in
    rw s.1 (next-piece c.args.c c.args.hello.now (enumerate_count loop.i-iterator) loop.n _ _ _ _ loop.invariant.0 c.requires.0 loop.invariant.2 loop.invariant.1 s.0.1.0 s.0.1.1 s.0.1.2)

pub loop-i-init : goal.loop-i-init
loop-i-init c =
    let hello = c.args.hello.now in
    let is = c.into_iter-i-iterator.ensures.into_iter_gives in
    let items = c.enumerate-i-items.ensures in
    let z : 0 * c.args.c ≡ 0 = omega arith in
    (rw (is, items.count) (starts c.args.c hello), rw (is, items.source, items.count, z) c.chunks.ensures.rest, rw (is, items.source) c.chunks.ensures.size)

pub overflow_add-n : goal.overflow_add-n
overflow_add-n c =
    let n = next (goal.at.overflow_add-n c).In-Some in
    omega (arith, c.frame_length-n.ensures.0, next_small n c.requires.0 c.requires.2)

pub loop-i-preserved : goal.loop-i-preserved
loop-i-preserved c =
    let n = next (goal.at.loop-i-preserved c).In-Some in
    let s = c.in-Some.ensures.steps in
    let up : enumerate_count c.next.new.self ≡ c.in-Some.i + 1 = s.2 ∙ ap (λ k. k + 1) (sym s.1) in
    (rw (up, c.frame_length-n.ensures.0) (goes_on n), rw up n.follows, s.0.0 ∙ c.loop-i.invariant.2)

pub returns : goal.returns
returns c =
    let l = c.loop-i in
    let none = c.in-None.ensures.steps.0.1.0 in
    ends l.invariant.0 (omega (arith, none, ap length l.invariant.1))
