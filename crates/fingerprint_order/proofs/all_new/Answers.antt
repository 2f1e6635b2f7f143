-- The loop keeps `Risen`: each id before the pairs that are left is greater than the one before it. Assumes nothing.
use mathlib.Core.Path.{refl, ap, ◌∙◌}
use Prim.Native.Nat.{◌+◌, ◌≤◌}
use lib.ListN.{get_or}
use native.Mathlib.Omega.{arith}
use Rattle.std.proofs.lemmas.List.Sorted.{IsNonDecreasingBy-from_sort}
use Rattle.std.specs.Slice.Iter.{windows_rest, windows_size}
use Rattle.fingerprint_order.proofs.SortedLaws.{risen-new, stands-twice}
use Rattle.fingerprint_order.proofs.WindowLaws.{Risen, risen-start, pair, risen-next, risen-end}
use Rattle.fingerprint_order.proofs.all_new.Goals as goal
use Rattle.fingerprint_order.proofs.all_new.Goals.{At-loop-pair}

-- the pairs are those of the sorted ids
kept : (c : At-loop-pair) → Risen c.sort_unstable.new.self c.loop-pair.pair-iterator
kept c = rw (ap windows_rest c.into_iter-pair-iterator.ensures.into_iter_gives ∙ c.windows-pair-items.ensures.rest) at c.loop-pair.invariant

pub loop-pair-init : goal.loop-pair-init
loop-pair-init c =
    let it = c.into_iter-pair-iterator in
    risen-start (windows_rest it.result) it.result refl (ap windows_size it.ensures.into_iter_gives ∙ c.windows-pair-items.ensures.size)

pub returns-then-pair : goal.returns-then-pair
returns-then-pair c =
    let sort = c.sort_unstable in
    let p = pair (kept (goal.at.returns-then-pair c).At-loop-pair) c.next.new.self c.next.result c.in-Some.pair c.in-Some.is c.next.ensures.steps in
    let falls : get_or sort.new.self (p.place + 1) 0 ≤ get_or sort.new.self p.place 0 = omega (arith, p.one, p.two, c.if-pair.true) in
    stands-twice c.args.ids.now sort.new.self sort.ensures.permutation (IsNonDecreasingBy-from_sort (λ x. x) _ sort.ensures.sorted) p.place (omega (arith, p.inside)) falls

pub loop-pair-preserved : goal.loop-pair-preserved
loop-pair-preserved c = risen-next c.loop-pair.invariant c.next.new.self c.next.result c.in-Some.pair c.in-Some.is c.next.ensures.steps c.if-pair.false

pub returns : goal.returns
returns c =
    let sort = c.sort_unstable in
    risen-new c.args.ids.now sort.new.self sort.ensures.permutation (λ j h. risen-end (kept (goal.at.returns c).At-loop-pair) c.next.new.self c.next.result c.in-None.is c.next.ensures.steps j h)
