-- `past_count` passes over as many entries as stand in a list at most. Assumes nothing.
use mathlib.Core.Path.{◌≡◌, ap, ◌∙◌}
use Prim.Native.Nat.{ℕ, ◌+◌}
use mathlib.Core.List.{List}
use native.Mathlib.Omega.{arith}
use Rattle.wire.proofs.ListLaws.{part_to_end, length-part-to-end}
use Rattle.fingerprint.specs.Code.{meant}
use Rattle.fingerprint_stops.specs.Stops.{passed, list_at}
use Rattle.fingerprint_stops.proofs.EntryLaws.{list_at-small, past-short, past-there}
use Rattle.fingerprint_stops.proofs.body.past_count.Goals as goal
use Rattle.fingerprint_stops.proofs.body.past_count.Goals.{Joined-list_prefix, in-Some, in-None}

wide : (c : Joined-list_prefix) → c.match-list_prefix.width ≡ list_at (meant c.args.kind)
wide c =
    elim c.match-list_prefix.branch [
      | in-Some w ↦ w.width-is ∙ w.bytes-width.ensures ∙ (rw w.in-Some.is at c.list_prefix.ensures)
      | in-None w ↦ w.width-is ∙ (rw w.in-None.is at c.list_prefix.ensures)
    ]

pub returns-then-body-width : goal.returns-then-body-width
returns-then-body-width c =
    let args = c.args in
    let is = wide (goal.at.returns-then-body-width c).Joined-list_prefix in
    (past-short (meant args.kind) args.body.now c.match-list_prefix.width is c.if-body-width.true, omega (arith, is, list_at-small (meant args.kind)))

pub returns : goal.returns
returns c =
    let args = c.args in
    let k = meant args.kind in
    let width = c.match-list_prefix.width in
    let is = wide (goal.at.returns c).Joined-list_prefix in
    let most = c.most_at in
    let entries = c.passed_over.ensures.0 ∙ ap (λ (l : List ℕ). passed k most.result l) (part_to_end args.body.now width) in (
      ap (λ (n : ℕ). width + n) entries ∙ past-there k args.body.now width is most.result most.ensures,
      omega (arith, c.passed_over.ensures.1, length-part-to-end args.body.now width, is, list_at-small k),
    )
