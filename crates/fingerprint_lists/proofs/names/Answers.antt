-- The loop keeps `Names` and `Filled`: the parts of the names that were read stand in the array. Assumes nothing.
use mathlib.Core.Path.{ap, ◌∙◌}
use Prim.Native.Nat.{◌+◌, ◌<◌, ◌≤◌}
use lib.ListN.{length}
use Rattle.fingerprint_bodies.specs.Entries.{or_empty, all_entries}
use Rattle.fingerprint_bodies.specs.Forms.{one_name}
use Rattle.fingerprint_lists.specs.Arrays.{span, placed}
use Rattle.fingerprint_lists.proofs.FillLaws.{filled-start, filled-room, filled_next, filled-end, filled-count}
use Rattle.fingerprint_lists.proofs.WalkLaws.{lengths, names-start, spans-few, spans-start, spans-next, spans-end, name-within, name-first, names-next}
use Rattle.fingerprint_lists.proofs.ReadLaws.{spans-same}
use native.Mathlib.Omega.{arith}
use Rattle.fingerprint_lists.proofs.names.Goals as goal
use Rattle.fingerprint_lists.proofs.names.Goals.{In-Some}

within : (c : In-Some) → c.loop-length.at + 1 + c.in-Some.length + length c.next.new.self.rest.now ≤ c.args.start + length c.args.list.now
within c = name-within c.loop-length.invariant.1 c.in-Some.ensures.steps

room : (c : In-Some) → c.loop-length.count < 16
room c =
    let l = c.loop-length in
    filled-room l.invariant.2 (spans-next l.invariant.1 c.in-Some.ensures.steps) (spans-few c.args.start c.args.list.now c.requires.0)

pub loop-length-init : goal.loop-length-init
loop-length-init c =
    let list = c.args.list.now in
    let start = c.args.start in
    let from = ap (λ s. s.rest.now) c.into_iter-length-iterator.ensures.into_iter_gives ∙ c.of-length-items.ensures in
    (lengths start list c.requires.0, rw from (names-start start list c.requires.0), filled-start 16 (span 0 0) (spans-start start list c.requires.0))

pub offset_bounds-items-count : goal.offset_bounds-items-count
offset_bounds-items-count c = omega (arith, room c)

pub bounds-items-count : goal.bounds-items-count
bounds-items-count c = room c

pub overflow_add-at : goal.overflow_add-at
overflow_add-at c = omega (arith, within (goal.at.overflow_add-at c).In-Some, c.requires.1)

pub overflow_add-at-in-loop-length : goal.overflow_add-at-in-loop-length
overflow_add-at-in-loop-length c = omega (arith, within (goal.at.overflow_add-at-in-loop-length c).In-Some, c.requires.1)

pub overflow_add-count : goal.overflow_add-count
overflow_add-count c = omega (arith, room (goal.at.overflow_add-count c).In-Some)

pub loop-length-preserved : goal.loop-length-preserved
loop-length-preserved c =
    let l = c.loop-length in
    let steps = c.in-Some.ensures.steps in (
      (name-first l.invariant.1 steps).later,
      names-next l.invariant.1 steps,
      filled_next l.invariant.2 (spans-next l.invariant.1 steps) (spans-few c.args.start c.args.list.now c.requires.0),
    )

pub returns : goal.returns
returns c =
    let l = c.loop-length in
    let none_left = spans-end l.invariant.1 c.in-None.ensures.steps in
    spans-same (placed c.args.start (or_empty (all_entries one_name c.args.list.now))) l.items l.count (filled-end l.invariant.2 none_left) (filled-count l.invariant.2 none_left)
