-- The loop keeps `Names` and `Standing`: the ranges of the names that were read stand in the output. Assumes nothing.
use Prim.Native.Nat.{◌+◌, ◌*◌, ◌≤◌}
use mathlib.Core.Path.{ap, ◌∙◌}
use lib.ListN.{length, length-map}
use Rattle.fingerprint_bodies.specs.Entries.{or_empty, all_entries}
use Rattle.fingerprint_bodies.specs.Forms.{one_name}
use Rattle.fingerprint_lists.specs.Arrays.{span_of, placed}
use Rattle.fingerprint_lists.proofs.WalkLaws.{lengths, name_spans, names-start, spans-few, spans-start, spans-next, spans-end, name-within, name-first, names-next}
use Rattle.fingerprint_layout.proofs.PieceLaws.{stand-start, stand-room, stand-fits, stand-next, stand-count, stand-end, range-wide, ranges-are}
use native.Mathlib.Omega.{arith}
use Rattle.fingerprint_layout.proofs.lists.put_names.Goals as goal
use Rattle.fingerprint_layout.proofs.lists.put_names.Goals.{In-Some}

within : (c : In-Some) → c.loop-length.at + 1 + c.in-Some.length + length c.next.new.self.rest.now ≤ c.args.start + length c.args.list.now
within c = name-within c.loop-length.invariant.1 c.in-Some.ensures.steps

fits : (c : In-Some) →
    let loop = c.loop-length in
    4 * loop.k + 4 ≤ length loop.out
fits c = stand-fits c.loop-length.invariant.2 (spans-next c.loop-length.invariant.1 c.in-Some.ensures.steps)

pub loop-length-init : goal.loop-length-init
loop-length-init c =
    let list = c.args.list.now in
    let start = c.args.start in
    let pre = c.requires in
    let from = ap (λ s. s.rest.now) c.into_iter-length-iterator.ensures.into_iter_gives ∙ c.of-length-items.ensures in (
      lengths start list pre.0,
      rw from (names-start start list pre.0),
      stand-start range-wide (spans-start start list pre.0) (omega (arith, spans-few start list pre.0, pre.2)),
    )

pub overflow_add-at : goal.overflow_add-at
overflow_add-at c = omega (arith, within (goal.at.overflow_add-at c).In-Some, c.requires.1)

pub put_range-requires : goal.put_range-requires
put_range-requires c = stand-room c.loop-length.invariant.2 (spans-next c.loop-length.invariant.1 c.in-Some.ensures.steps)

pub overflow_add-at-in-loop-length : goal.overflow_add-at-in-loop-length
overflow_add-at-in-loop-length c = omega (arith, within (goal.at.overflow_add-at-in-loop-length c).In-Some, c.requires.1)

pub loop-length-preserved : goal.loop-length-preserved
loop-length-preserved c =
    let l = c.loop-length in
    let steps = c.in-Some.ensures.steps in (
      (name-first l.invariant.1 steps).later,
      names-next l.invariant.1 steps,
      stand-next l.invariant.2 (spans-next l.invariant.1 steps) c.put_range.ensures (omega arith),
    )

pub returns : goal.returns
returns c =
    let l = c.loop-length in
    let list = c.args.list.now in
    let none_left = spans-end l.invariant.1 c.in-None.ensures.steps in
    (stand-count l.invariant.2 none_left ∙ length-map (placed c.args.start (or_empty (all_entries one_name list))) span_of, stand-end l.invariant.2 none_left (ranges-are (name_spans c.args.start list)))
