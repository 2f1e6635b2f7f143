-- The splitter's two calls agree; records written one after another are read back in order, and then the end. Assumes nothing.
use Prim.Native.Nat.{ℕ, ◌+◌, ◌-◌, ◌≤◌, ◌<◌}
use mathlib.Core.Path.{◌≡◌, refl, sym, ap, ◌∙◌}
use mathlib.Core.Bool.{Bool, true, false, cond}
use mathlib.Core.List.{List, [], ◌∷◌, ◌++◌, append_assoc, append-nil}
use native.Mathlib.Omega.{arith}
use lib.ListN.{length, take, drop, length-append, length-drop, take-append-drop}
use lib.Seq.{take_at, drop_at, drop-drop, length-take-le}
use lib.Dec.{leb, ltb, lit<}
use Rattle.wire.specs.Answer.{Answer, result, refused, ask}
use Rattle.wire.specs.Numbers.{digits, number}
use Rattle.wire.proofs.NumberLaws.{above, length_digits, number_digits}
use Rattle.wire.proofs.ListLaws.{length_part}
use Rattle.records.specs.Records.{Found, record-to, end, length_at, record_at, record_of, Finds, blob_of, Short, Gives}
use Rattle.std.specs.Prelude.{Result, Ok, Err, Some, None}
use Rattle.std.specs.Prelude as std
use Rattle.wire.specs.Refusals.{question}
use Rattle.wire.specs.declared.refusals.Refusal.{Refusal}
use Rattle.records.proofs.Promises.{finds-end, finds-record, part_of}

-- ---- one place

-- a record that stands at a place: its length in two bytes, then its bytes
pub record Stands (blob : List ℕ) (at : ℕ) (part : List ℕ) (after : ℕ) : Type 0 where
  pub ends : at + 2 + length part ≡ after
  pub length-bytes : length (take 2 (drop at blob)) ≡ 2
  pub length-read : number 256 (take 2 (drop at blob)) ≡ length part
  pub bytes : drop at blob ≡ take 2 (drop at blob) ++ part ++ drop after blob

-- what the answer of `next_record` says of the part that `split_records` hands back
abbrev pub Tied : List ℕ → ℕ → List ℕ → Result (std.Option ℕ) Refusal → Type 0
Tied blob at part (Ok (Some after)) = Stands blob at part after
Tied blob at part (Ok None) = part ≡ []
Tied blob at part (Err e) = (question e ≡ 27) × (part ≡ [])

-- an answer whose record ends at a place, and whose refusal is 27
abbrev EndsAt : ℕ → Answer Found → Type 0
EndsAt e (result (record-to after)) = after ≡ e
EndsAt e (result end) = Unit {0}
EndsAt e (refused n) = n ≡ 27

ends_at : (a b c : Bool) (e : ℕ) → EndsAt e (ask a 27 (cond b (result end) (ask c 27 (result (record-to e)))))
ends_at true true c e = tt
ends_at true false true e = refl
ends_at true false false e = refl
ends_at false b c e = refl

module _ (blob : List ℕ) (at : ℕ) where
  record-ends : EndsAt (at + 2 + length_at blob at) (record_at blob at)
  unfolding record_at
  record-ends = ends_at (leb at (length blob)) (ltb (length blob - at) 2) (leb (at + 2 + length_at blob at) (length blob)) (at + 2 + length_at blob at)

  stands : (after : ℕ) → after ≡ at + 2 + length_at blob at → at + 2 ≤ after → after ≤ length blob → Stands blob at (take (after - (at + 2)) (drop (at + 2) blob)) after
  unfolding length_at
  stands after e low high =
      let part : List ℕ = take (after - (at + 2)) (drop (at + 2) blob) in
      let long : length part ≡ after - (at + 2) = length_part blob (at + 2) after low high in
      let to : at + 2 + (after - (at + 2)) ≡ after = omega arith in
      let after-part : drop (after - (at + 2)) (drop (at + 2) blob) ≡ drop after blob = rw (drop-drop, to) in
      let split : drop (at + 2) blob ≡ part ++ drop after blob = sym (take-append-drop (after - (at + 2)) (drop (at + 2) blob)) ∙ rw after-part in
      let from-length : drop 2 (drop at blob) ≡ part ++ drop after blob = drop-drop 2 at blob ∙ split in
      record {
        ends = omega arith;
        length-bytes = length-take-le 2 (drop at blob) (omega (arith, length-drop at blob));
        length-read = omega arith;
        bytes = sym (take-append-drop 2 (drop at blob)) ∙ rw (from-length, append_assoc);
      }

  -- THE TWO CALLS AGREE, for any answer of the one and any part of the other that keep their promises
  pub tied : (part : List ℕ) (r : Result (std.Option ℕ) Refusal) → Finds blob at r → part ≡ record_of blob at → Tied blob at part r
  tied part (Ok (Some after)) f p =
      let e : after ≡ at + 2 + length_at blob at = rw (← f.is) at record-ends in
      rw (p ∙ sym (part_of blob at (Ok (Some after)) f)) (stands after e f.bounds.0 f.bounds.1)
  tied part (Ok None) f p = p ∙ sym (part_of blob at (Ok None) f)
  tied part (Err e) f p = (rw (← f.is) at record-ends, p ∙ sym (part_of blob at (Err e) f))

-- ---- a whole blob

module _ (blob : List ℕ) (at : ℕ) (inside : at ≤ length blob) where
  gives-end : length (drop at blob) < 2 → Gives blob at []
  gives-end h =
      let f : Finds blob at (Ok None) = finds-end blob at inside (rw length-drop at h) in
      (sym f.is, sym (part_of blob at (Ok None) f))

  module _ (r rest : List ℕ) (e : drop at blob ≡ digits 256 2 (length r) ++ r ++ rest) where
    two : length (digits 256 2 (length r)) ≡ 2
    two = length_digits 256 2 (length r)

    left : length blob - at ≡ 2 + length r + length rest
    left =
        omega
        (arith, length-drop at blob, ap length e, length-append (digits 256 2 (length r) ++ r) rest, length-append (digits 256 2 (length r)) r, two)

    from-part : drop (at + 2) blob ≡ r ++ rest
    from-part = sym (drop-drop 2 at blob) ∙ rw (e, append_assoc) (drop_at (digits 256 2 (length r)) (r ++ rest) 2 two)

    from-after : drop (at + 2 + length r) blob ≡ rest
    from-after = sym (drop-drop (length r) (at + 2) blob) ∙ rw from-part (drop_at r rest (length r) refl)

    after-inside : at + 2 + length r ≤ length blob
    after-inside = omega (arith, left)

    found : length r < 65536 → Finds blob at (Ok (Some (at + 2 + length r)))
    unfolding length_at above
    found h =
        let front : take 2 (drop at blob) ≡ digits 256 2 (length r) = rw (e, append_assoc) (take_at (digits 256 2 (length r)) (r ++ rest) 2 two) in
        let says : length r ≡ number 256 (take 2 (drop at blob)) = rw front (sym (number_digits 256 2 (length r) (omega arith))) in
        finds-record blob at inside (omega (arith, left)) (length r) says (omega (arith, left))

    part : length r < 65536 → record_of blob at ≡ r
    part h =
        let n : at + 2 + length r - (at + 2) ≡ length r = omega arith in
        sym (part_of blob at (Ok (Some (at + 2 + length r))) (found h)) ∙ rw (n, from-part) (take_at r rest (length r) refl)

-- records from a place on, then fewer than 2 bytes
gives : (rs : List (List ℕ)) (blob tail : List ℕ) (at : ℕ) → at ≤ length blob → Short rs → length tail < 2 → drop at blob ≡ blob_of rs ++ tail → Gives blob at rs
unfolding blob_of
gives [] blob tail at inside s h e = gives-end blob at inside (rw e h)
gives (r ∷ rs) blob tail at inside s h e =
    let here : drop at blob ≡ digits 256 2 (length r) ++ r ++ (blob_of rs ++ tail) = e ∙ append_assoc (digits 256 2 (length r) ++ r) (blob_of rs) tail in (
      sym (found blob at inside r (blob_of rs ++ tail) here s.0).is,
      part blob at inside r (blob_of rs ++ tail) here s.0,
      gives rs blob tail (at + 2 + length r) (after-inside blob at inside r (blob_of rs ++ tail) here) s.1 h (from-after blob at inside r (blob_of rs ++ tail) here),
    )

-- RECORDS ARE READ BACK: whatever stands before them, and also where one byte is left over
pub read_back :
    (before : List ℕ) (rs : List (List ℕ)) (tail : List ℕ) → Short rs → length tail < 2
    → Gives (before ++ (blob_of rs ++ tail)) (length before) rs
read_back before rs tail s h =
    let inside : length before ≤ length (before ++ (blob_of rs ++ tail)) = rw length-append (omega arith) in
    gives rs (before ++ (blob_of rs ++ tail)) tail (length before) inside s h (drop_at before (blob_of rs ++ tail) (length before) refl)

pub whole-blob : (rs : List (List ℕ)) → Short rs → Gives (blob_of rs) 0 rs
whole-blob rs s = rw append-nil at (read_back [] rs [] s (lit< tt))
