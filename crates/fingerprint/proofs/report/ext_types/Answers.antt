-- `ext_types` fills the array with one type after the other. Assumes nothing.
use mathlib.Core.Path.{◌≡◌, refl, ap, ◌∙◌}
use Prim.Native.Nat.{◌-◌}
use mathlib.Core.List.{List, map, append-nil}
use lib.ListN.{length, length-map, drop_of_length-le}
use Rattle.profiles.specs.declared.ExtType.{ExtType}
use Rattle.fingerprint_lists.specs.Arrays.{ext_type, padded}
use Rattle.fingerprint_lists.proofs.FillLaws.{filled-start, filled_next, filled-end, items-next}
use native.Mathlib.Omega.{arith}
use Rattle.fingerprint.proofs.report.ext_types.Goals as goal

-- types in every place
filled-all : (l : List ExtType) → length l ≡ 64 → padded 64 (ext_type 0) l ≡ l
unfolding padded
filled-all l e =
    let none : 64 - length l ≡ 0 = omega (arith, e) in
    rw none (append-nil l)

pub loop-i-init : goal.loop-i-init
loop-i-init c = filled-start 64 (ext_type 0) refl

pub loop-i-preserved : goal.loop-i-preserved
loop-i-preserved c =
    let l = c.loop-i in
    let s = c.args.numbers.now in
    let long : length s ≡ 64 = c.told-numbers in
    let next = items-next s l.i 0 (omega (arith, c.loop-i-test.true, long)) in
    filled_next l.invariant (ap (map ext_type) next) (omega (arith, length-map s ext_type, long))

pub returns : goal.returns
returns c =
    let l = c.loop-i in
    let s = c.args.numbers.now in
    let long : length s ≡ 64 = c.told-numbers in
    let none_left = drop_of_length-le s {i = l.i} (omega (arith, c.loop-i-test.false, long)) in
    filled-end l.invariant (ap (map ext_type) none_left) ∙ filled-all (map ext_type s) (length-map s ext_type ∙ long)
