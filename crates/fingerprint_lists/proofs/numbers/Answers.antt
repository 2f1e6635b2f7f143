-- The loop keeps `Filled`: the numbers of the entries that were read stand in the array, and those still to come in the rest. Assumes nothing.
use mathlib.Core.Path.{refl, ap, ◌∙◌}
use Rattle.fingerprint_bodies.specs.Entries.{front_entries}
use Rattle.fingerprint_bodies.proofs.YieldLaws.{HoldsNext, holds, holds-next, holds-end}
use Rattle.fingerprint_lists.proofs.FillLaws.{filled-start, filled-room, filled_next, filled-end, filled-count}
use Rattle.fingerprint_lists.proofs.ReadLaws.{words_same}
use Rattle.fingerprint_lists.proofs.numbers.Given.{Over}
use Rattle.fingerprint_lists.proofs.numbers.Goals as goal
use Rattle.fingerprint_lists.proofs.numbers.Goals.{In-Some}

next : (g : Over) (c : In-Some g) → HoldsNext g.E.Listed.form c.in-Some.number c.next.new.self.rest.now c.loop-number.invariant.0
next g c = holds-next g.E.Listed.form c.loop-number.invariant.1 c.in-Some.ensures.steps

pub loop-number-init : goal.loop-number-init
loop-number-init g c =
    let list = c.args.list.now in
    let from = ap (λ s. s.rest.now) c.into_iter-number-iterator.ensures.into_iter_gives ∙ c.of-number-items.ensures in
    (front_entries g.E.Listed.form list, rw from (holds g.E.Listed.form list), filled-start 64 0 refl)

pub bounds-items-count : goal.bounds-items-count
bounds-items-count g c = filled-room c.loop-number.invariant.2 (next g c).is c.requires

pub loop-number-preserved : goal.loop-number-preserved
loop-number-preserved g c =
    let n = next g (goal.at.loop-number-preserved g c).In-Some in
    (n.later, n.holds, filled_next c.loop-number.invariant.2 n.is c.requires)

pub returns : goal.returns
returns g c =
    let l = c.loop-number in
    let none_left = holds-end g.E.Listed.form l.invariant.1 c.in-None.ensures.steps in
    words_same (front_entries g.E.Listed.form c.args.list.now) l.items l.count (filled-end l.invariant.2 none_left) (filled-count l.invariant.2 none_left)
