-- The loop keeps: the id is among those of the first k parameters exactly where it is among those of them still to come. Assumes nothing.
use Prim.Native.Nat.{ℕ, suc}
use mathlib.Core.Path.{◌≡◌, sym, ap, ◌∙◌}
use mathlib.Core.List.{◌∷◌}
use native.Mathlib.Omega.{arith}
use Rattle.wire.proofs.SumLaws.{member-nil}
use Rattle.fingerprint_order.proofs.MemberLaws.{member-first, member-later}
use Rattle.fingerprint_stops.specs.Code.{first_ids}
use Rattle.fingerprint_stops.proofs.RepeatLaws.{first-next, first-end}
use Rattle.fingerprint_stops.proofs.body.among_first.Goals as goal
use Rattle.fingerprint_stops.proofs.body.among_first.Goals.{In-Some}

pub loop-other-init : goal.loop-other-init
loop-other-init c = rw (c.into_iter-other-iterator.ensures.into_iter_gives, c.take-other-items.ensures.source, c.take-other-items.ensures.count, c.of.ensures)

-- the ids still to come begin with this one
next : (c : In-Some) →
    let it = c.loop-other.other-iterator in
    first_ids it.n it.iter.rest.now ≡ c.in-Some.other ∷ first_ids c.next.new.self.n c.next.new.self.iter.rest.now
next c =
    let it = c.loop-other.other-iterator in
    let t = c.in-Some.ensures.steps in
    let count : it.n ≡ suc c.next.new.self.n = omega (arith, t.1) in
    ap (λ (m : ℕ). first_ids m it.iter.rest.now) count ∙ first-next it.iter.rest.now c.next.new.self.iter.rest.now c.in-Some.other t.0 c.next.new.self.n

pub returns-then-other-id : goal.returns-then-other-id
returns-then-other-id c =
    sym (c.loop-other.invariant ∙ rw (next (goal.at.returns-then-other-id c).In-Some) (member-first c.args.id _ _ (sym c.if-other-id.true)))

pub loop-other-preserved : goal.loop-other-preserved
loop-other-preserved c =
    c.loop-other.invariant ∙ rw (next (goal.at.loop-other-preserved c).In-Some) (member-later c.args.id _ _ (λ e. c.if-other-id.false (sym e)))

pub returns : goal.returns
returns c =
    let it = c.loop-other.other-iterator in
    sym (c.loop-other.invariant ∙ rw (first-end it.iter.rest.now c.next.new.self.iter.rest.now it.n c.in-None.ensures.steps) (member-nil c.args.id))
