-- `broken_at` goes to the list, or stays at its length, as the definition does. Assumes nothing.
use mathlib.Core.Path.{◌≡◌, refl, sym, ap, ◌∙◌}
use mathlib.Core.Bool.{Bool}
use Prim.Native.Nat.{ℕ, ◌+◌}
use mathlib.Core.List.{List}
use native.Mathlib.Omega.{arith}
use lib.ListN.{length}
use Rattle.wire.proofs.ListLaws.{part_to_end, length-part-to-end}
use Rattle.fingerprint_bodies.specs.Code.{is_whole}
use Rattle.fingerprint.specs.Code.{meant}
use Rattle.fingerprint_stops.specs.Stops.{passed, list_at}
use Rattle.fingerprint_stops.proofs.EntryLaws.{prefix-some, broken-list, broken-entries, broken-empty, broken-length}
use Rattle.fingerprint_stops.proofs.body.broken_at.Goals as goal
use Rattle.fingerprint_stops.proofs.body.broken_at.Goals.{After-is_whole}

pub returns-in_default : goal.returns-in_default
returns-in_default c =
    let args = c.args in
    let none = rw c.in_default.is at c.list_prefix.ensures in
    (c.passed_over.ensures.0 ∙ broken-list (meant args.kind) args.body.now 0 none refl, c.passed_over.ensures.1)

module _ (c : After-is_whole) where
  wide : c.bytes-width.result ≡ list_at (meant c.args.kind)
  wide = c.bytes-width.ensures ∙ (rw c.in-Some.is at c.list_prefix.ensures)

  listed : c.bytes-width.result ≡ 0 → ⊥
  listed e = omega (arith, e, c.bytes-width.ensures, prefix-some c.in-Some.prefix)

  whole : {b : Bool} → c.is_whole.result ≡ b → is_whole c.bytes-width.result c.args.body.now ≡ b
  whole e = ap (λ (n : ℕ). is_whole n c.args.body.now) c.bytes-width.ensures ∙ sym c.is_whole.ensures ∙ e

pub returns-then-width-body : goal.returns-then-width-body
returns-then-width-body c =
    let args = c.args in
    let k = meant args.kind in
    let here = (goal.at.returns-then-width-body c).After-is_whole in
    let width = c.bytes-width.result in
    let entries = c.passed_over-then-width-body.ensures.0 ∙ ap (λ (l : List ℕ). passed k (length args.body.now) l) (part_to_end args.body.now width) in (
      ap (λ (n : ℕ). width + n) entries ∙ broken-entries k args.body.now width (wide here) (listed here) (whole here c.if-is_whole.true) c.if-width-body.true,
      omega (arith, c.passed_over-then-width-body.ensures.1, length-part-to-end args.body.now width, c.if-width-body.true),
    )

pub returns-else-width-body : goal.returns-else-width-body
returns-else-width-body c =
    let here = (goal.at.returns-else-width-body c).After-is_whole in
    (broken-empty (meant c.args.kind) c.args.body.now c.bytes-width.result (wide here) (listed here) (whole here c.if-is_whole.true) c.if-width-body.false, omega arith)

pub returns-else-is_whole : goal.returns-else-is_whole
returns-else-is_whole c =
    let here = (goal.at.returns-else-is_whole c).After-is_whole in
    (broken-length (meant c.args.kind) c.args.body.now c.bytes-width.result (wide here) (listed here) (whole here c.if-is_whole.false), omega arith)
