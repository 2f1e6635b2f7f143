-- The loop keeps: the first i numbers are distinct, and each has its mark. Assumes nothing.
use mathlib.Core.Path.{◌≡◌, refl, sym, ◌∙◌}
use mathlib.Core.Bool.{true, false}
use Prim.Native.Nat.{◌%◌}
use lib.ListN.{length, take, get_or, replicate, length-set}
use Rattle.wire.specs.Sums.{member}
use Rattle.fingerprint_order.proofs.MemberLaws.{one_more, new-not}
use Rattle.fingerprint_parameters.proofs.MemberLaws.{new-start, new-next, contains-member}
use Rattle.fingerprint_parameters.proofs.MarkLaws.{marked-none, marked_next, unmarked-new}
use lib.Seq.{take_all}
use native.Mathlib.Omega.{arith}
use Rattle.fingerprint_parameters.proofs.all_new.Goals as goal
use Rattle.fingerprint_parameters.proofs.all_new.Goals.{Joined-else-has, else-has-via-then-has+else-contains, else-has-via-else-has}

not-before : (c : Joined-else-has) → member (get_or c.args.ids.now c.loop-i.i 0) (take c.loop-i.i c.args.ids.now) ≡ false
not-before c =
    let ids = c.args.ids.now in
    let i = c.loop-i.i in
    elim c.else-has.branch [
      | else-has-via-then-has+else-contains w ↦
          sym (contains-member (get_or ids i 0) (take i ids)) ∙ sym w.contains.ensures.value ∙ w.if-contains.false
      | else-has-via-else-has w ↦ unmarked-new c.loop-i.marks.rests (take i ids) (get_or ids i 0) c.loop-i.invariant.1 (sym c.has.ensures ∙ w.if-has.false)
    ]

pub loop-i-init : goal.loop-i-init
loop-i-init c = (refl, marked-none (replicate 64 false), new-start c.args.ids.now)

pub returns-then-contains : goal.returns-then-contains
returns-then-contains c =
    let ids = c.args.ids.now in
    let i = c.loop-i.i in
    let before : member (get_or ids i 0) (take i ids) ≡ true =
    sym (contains-member (get_or ids i 0) (take i ids)) ∙ sym c.contains.ensures.value ∙ c.if-contains.true in
    sym (rw (take_all (length ids) ids (omega arith)) at (new-not ids i c.loop-i-test.true (length ids) c.loop-i-test.true before))

pub loop-i-preserved : goal.loop-i-preserved
loop-i-preserved c =
    let ids = c.args.ids.now in
    let loop = c.loop-i in
    let h = c.loop-i-test.true in (
      rw c.add.ensures (length-set loop.marks.rests (get_or ids loop.i 0 % 64) true ∙ loop.invariant.0),
      rw (c.add.ensures, one_more ids loop.i h) (marked_next loop.marks.rests (take loop.i ids) (get_or ids loop.i 0) loop.invariant.0 loop.invariant.1),
      new-next ids loop.i h loop.invariant.2 (not-before (goal.at.loop-i-preserved c).Joined-else-has),
    )
