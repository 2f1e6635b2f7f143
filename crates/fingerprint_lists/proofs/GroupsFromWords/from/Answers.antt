-- The loop keeps `Filled`: the groups of the numbers before place i stand in the array. Assumes nothing.
use mathlib.Core.Path.{◌≡◌, refl, ap, ◌∙◌}
use mathlib.Core.List.{map}
use lib.ListN.{length, length-map, drop_of_length-le}
use Rattle.std.proofs.Common.{rules}
use Rattle.fingerprint_lists.specs.Arrays.{group}
use Rattle.fingerprint_lists.proofs.FillLaws.{filled-start, filled_next, filled-end, items-next, padded-full}
use native.Mathlib.Omega.{arith}
use Rattle.fingerprint_lists.proofs.GroupsFromWords.from.Goals as goal

pub loop-i-init : goal.loop-i-init
loop-i-init c = filled-start 64 (group 0) refl

pub loop-i-preserved : goal.loop-i-preserved
loop-i-preserved c =
    let l = c.loop-i in
    let s = c.args.words.items in
    let long : length s ≡ 64 = search rules in
    let next = items-next s l.i 0 (omega (arith, c.loop-i-test.true, long)) in
    filled_next l.invariant (ap (map group) next) (omega (arith, length-map s group, long))

pub returns : goal.returns
returns c =
    let l = c.loop-i in
    let s = c.args.words.items in
    let long : length s ≡ 64 = search rules in
    let none_left = drop_of_length-le s {i = l.i} (omega (arith, c.loop-i-test.false, long)) in
    (filled-end l.invariant (ap (map group) none_left) ∙ padded-full 64 (group 0) (map group s) (length-map s group ∙ long), refl)
