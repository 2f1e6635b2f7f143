-- `join_onto` clears both buffers, joins, and clears them again after a refusal. Assumes nothing.
use Prim.Native.Nat.{ℕ}
use mathlib.Core.Path.{sym, ap, ◌∙◌}
use lib.ListN.{replicate}
use Rattle.frames.proofs.RoomLaws.{within-room, no_room, walked-ok, walked-err}
use native.Mathlib.Omega.{arith}
use Rattle.frames.proofs.joining.join_onto.Goals as goal

pub returns-then-not-has_room : goal.returns-then-not-has_room
returns-then-not-has_room c =
    let has_room = c.has_room in
    no_room (sym has_room.ensures ∙ c.if-not-has_room.true)

pub join_all-walked-requires : goal.join_all-walked-requires
join_all-walked-requires c =
    let args = c.args in
    let has_room = c.has_room in
    let if1 = c.if-not-has_room in
    let fill = c.fill in
    let fill2 = c.fill-2 in
    let within = within-room args.out.now args.marks.now (sym has_room.ensures ∙ if1.false) in
    (omega (arith, fill.auto.self, within.0), omega (arith, fill2.auto.self, within.1), fill.ensures.after (λ y e. e) ∙ ap (λ (n : ℕ). replicate n 0) (sym fill.auto.self), fill2.ensures.after (λ y e. e) ∙ ap (λ (n : ℕ). replicate n 0) (sym fill2.auto.self))

pub returns-then-is_err : goal.returns-then-is_err
returns-then-is_err c =
    let walked = c.join_all-walked in
    walked-err (sym c.has_room.ensures ∙ c.if-not-has_room.false) walked.result c.if-is_err.ensures.value walked.ensures
    (walked.auto.out ∙ c.fill.auto.self) (walked.auto.marks ∙ c.fill-2.auto.self) (c.fill-then-is_err.ensures.after (λ y e. e)) (c.fill-then-is_err-2.ensures.after (λ y e. e))

pub returns-else-is_err : goal.returns-else-is_err
returns-else-is_err c =
    let walked = c.join_all-walked in
    walked-ok (sym c.has_room.ensures ∙ c.if-not-has_room.false) walked.result c.if-is_err.ensures.value c.fill.auto.self c.fill-2.auto.self walked.ensures
