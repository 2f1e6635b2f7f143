-- The loop keeps `Reading`. A store past the end of the array would change nothing, so both branches store alike. Assumes nothing.
use mathlib.Core.Path.{◌≡◌, sym, ◌∙◌}
use lib.ListN.{length, set}
use lib.Seq.{set_out}
use borrow.Author.Tests.{eqb-true, eqb-false}
use Rattle.fingerprint_parameters.proofs.ReadingLaws.{reading-start, reading-next, reading-cut, reading-end}
use native.Mathlib.Omega.{arith}
use Rattle.fingerprint_parameters.proofs.read_ids.Goals as goal
use Rattle.fingerprint_parameters.proofs.read_ids.Goals.{Joined-k-room, then-k-room, else-k-room}

stored : (c : Joined-k-room) →
    let loop = c.loop-id in
    c.if-k-room.ids ≡ set loop.ids loop.k c.in-Some.id
stored c =
    let loop = c.loop-id in
    elim c.if-k-room.branch [
      | then-k-room w ↦ w.ids-is
      | else-k-room w ↦ w.ids-is ∙ sym (set_out loop.ids loop.k c.in-Some.id (omega (arith, w.if-k-room.false, loop.invariant.size)))
    ]

pub loop-id-init : goal.loop-id-init
loop-id-init c = rw c.of-parameters.ensures (reading-start c.args.body.now c.args.ids.now)

pub loop-id-preserved : goal.loop-id-preserved
loop-id-preserved c =
    let args = c.args in
    let loop = c.loop-id in
    rw (stored (goal.at.loop-id-preserved c).Joined-k-room) (reading-next args.body.now args.ids.now loop.ids loop.parameters.rest.now loop.k loop.invariant c.in-Some.id c.next.new.self.rest.now c.in-Some.ensures.steps)

pub returns-then-is_empty : goal.returns-then-is_empty
returns-then-is_empty c =
    let args = c.args in
    let loop = c.loop-id in
    reading-end args.body.now args.ids.now loop.ids loop.parameters.rest.now loop.k loop.invariant c.in_default.ensures.steps
    (eqb-true (length c.next.new.self.rest.now) 0 (sym c.is_empty.ensures ∙ c.if-is_empty.true))

pub returns : goal.returns
returns c =
    let args = c.args in
    let loop = c.loop-id in
    let some_left = eqb-false (length c.next.new.self.rest.now) 0 (sym c.is_empty.ensures ∙ c.if-is_empty.false) in
    reading-cut args.body.now args.ids.now loop.ids loop.parameters.rest.now loop.k loop.invariant c.in_default.ensures.steps (omega (arith, some_left))
