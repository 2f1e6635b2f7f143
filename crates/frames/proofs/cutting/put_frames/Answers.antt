-- The loop keeps `Left`, and `Writing`: the first n bytes of all frames stand in the output. Assumes nothing.
use Prim.Native.Nat.{◌+◌, ◌*◌}
use mathlib.Core.Path.{◌≡◌, sym, ap, ◌∙◌}
use lib.ListN.{length}
use lib.Seq.{drop-length}
use Rattle.std.specs.Iterator.Adapters.{enumerate_source, enumerate_count}
use Rattle.std.specs.Slice.Iter.{chunks_rest}
use Rattle.frames.specs.Cut.{frames_of}
use Rattle.wire.proofs.Writing.{begins, restated, finished}
use Rattle.frames.proofs.CutLaws.{Next, next-piece, starts, ends, goes_on, next_small, frame-room, frame-written}
use native.Mathlib.Omega.{arith}
use Rattle.frames.proofs.cutting.put_frames.Goals as goal
use Rattle.frames.proofs.cutting.put_frames.Goals.{In-Some}

next : (c : In-Some) →
    Next c.args.c c.args.hello.now c.in-Some.i c.loop-i.n c.in-Some.piece.now (chunks_rest (enumerate_source c.next.new.self))
next c =
    let loop = c.loop-i in
    let s = c.in-Some.ensures.steps in
    rw s.1 (next-piece c.args.c c.args.hello.now (enumerate_count loop.i-iterator) loop.n _ _ _ _ loop.invariant.0 c.requires.0 loop.invariant.3 loop.invariant.2 s.0.1.0 s.0.1.1 s.0.1.2)

pub loop-i-init : goal.loop-i-init
loop-i-init c =
    let hello = c.args.hello.now in
    let is = c.into_iter-i-iterator.ensures.into_iter_gives in
    let items = c.enumerate-i-items.ensures in
    let z : 0 * c.args.c ≡ 0 = omega arith in (
      rw (is, items.count) (starts c.args.c hello),
      begins (frames_of c.args.c hello) c.args.out.now c.requires.3,
      rw (is, items.source, items.count, z) c.chunks.ensures.rest,
      rw (is, items.source) c.chunks.ensures.size,
    )

pub put_frame-n-requires : goal.put_frame-n-requires
put_frame-n-requires c =
    let n = next (goal.at.put_frame-n-requires c).In-Some in
    (omega (arith, n.small, c.requires.2), omega (arith, n.small, c.requires.2), frame-room n c.loop-i.invariant.1)

pub overflow_add-n : goal.overflow_add-n
overflow_add-n c =
    let n = next (goal.at.overflow_add-n c).In-Some in
    omega (arith, c.put_frame-n.ensures.count, next_small n c.requires.0 c.requires.2)

pub loop-i-preserved : goal.loop-i-preserved
loop-i-preserved c =
    let n = next (goal.at.loop-i-preserved c).In-Some in
    let s = c.in-Some.ensures.steps in
    let put = c.put_frame-n.ensures in
    let up : enumerate_count c.next.new.self ≡ c.in-Some.i + 1 = s.2 ∙ ap (λ k. k + 1) (sym s.1) in
    (rw (up, put.count) (goes_on n), frame-written n c.loop-i.invariant.1 put, rw up n.follows, s.0.0 ∙ c.loop-i.invariant.3)

pub returns : goal.returns
returns c =
    let args = c.args in
    let loop = c.loop-i in
    let whole = frames_of args.c args.hello.now in
    let none = c.in-None.ensures.steps.0.1.0 in
    let all : loop.n ≡ length whole = ends loop.invariant.0 (omega (arith, none, ap length loop.invariant.2)) in
    finished (restated loop.invariant.1 (rw all (drop-length whole)))
