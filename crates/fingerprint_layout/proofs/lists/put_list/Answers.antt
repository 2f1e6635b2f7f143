-- The loop keeps `Standing`: the numbers of the entries that were read stand in the output, and those still to come in the rest. Assumes nothing.
use mathlib.Core.Path.{refl, ap, ◌∙◌}
use Prim.Native.Nat.{◌+◌, ◌*◌, ◌≤◌}
use lib.ListN.{length}
use Rattle.fingerprint_bodies.specs.Entries.{front_entries}
use Rattle.fingerprint_bodies.proofs.YieldLaws.{HoldsNext, holds, holds-next, holds-end}
use Rattle.fingerprint_layout.proofs.PieceLaws.{stand-start, stand-room, stand-fits, stand-next, stand-count, stand-end, numbers-are, length-little}
use native.Mathlib.Omega.{arith}
use Rattle.fingerprint_layout.proofs.lists.put_list.Given.{Over}
use Rattle.fingerprint_layout.proofs.lists.put_list.Goals as goal
use Rattle.fingerprint_layout.proofs.lists.put_list.Goals.{In-Some}

next : (g : Over) (c : In-Some g) → HoldsNext g.E.Listed.form c.in-Some.number c.next.new.self.rest.now c.loop-number.invariant.0
next g c = holds-next g.E.Listed.form c.loop-number.invariant.1 c.in-Some.ensures.steps

fits : (g : Over) (c : In-Some g) →
    let loop = c.loop-number in
    2 * loop.k + 2 ≤ length loop.out
fits g c = stand-fits c.loop-number.invariant.2 (next g c).is

pub loop-number-init : goal.loop-number-init
loop-number-init g c =
    let form = g.E.Listed.form in
    let list = c.args.list.now in
    let from = ap (λ s. s.rest.now) c.into_iter-number-iterator.ensures.into_iter_gives ∙ c.of-number-items.ensures in
    (front_entries form list, rw from (holds form list), stand-start (length-little 2) refl c.requires)

pub put-requires : goal.put-requires
put-requires g c = stand-room c.loop-number.invariant.2 (next g (goal.at.put-requires g c).In-Some).is

pub loop-number-preserved : goal.loop-number-preserved
loop-number-preserved g c =
    let n = next g (goal.at.loop-number-preserved g c).In-Some in
    (n.later, n.holds, stand-next c.loop-number.invariant.2 n.is c.put.ensures (omega arith))

pub returns : goal.returns
returns g c =
    let loop = c.loop-number in
    let form = g.E.Listed.form in
    let none_left = holds-end form loop.invariant.1 c.in-None.ensures.steps in
    (stand-count loop.invariant.2 none_left, stand-end loop.invariant.2 none_left (numbers-are 2 (front_entries form c.args.list.now)))
