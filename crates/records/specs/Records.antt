-- Records of a blob: two bytes of length, then so many bytes (`split_records` of fingerprint.rs; document 01, "Around them" and
-- question 27).
use Rattle.std.specs.Prelude.{ℕ, ◌+◌, ◌-◌, ◌≤◌, ◌<◌, ◌≡◌, cond, List, [], ◌∷◌, ◌++◌, length, take, drop, leb, ltb}
use Rattle.std.specs.Prelude.{Result, Ok, Err, Some, None, IfOk, IfSome}
use Rattle.std.specs.Prelude as std
use Rattle.wire.specs.Answer.{Answer, result, refused, ask}
use Rattle.wire.specs.Refusals.{question}
use Rattle.wire.specs.declared.refusals.Refusal.{Refusal}
use Rattle.wire.specs.Numbers.{digits, number}

-- "a record and the place after it", or the end
pub data Found : Type 0 where
  record-to : ℕ → Found
  end : Found

-- the length that stands at a place
unfoldable pub length_at : List ℕ → ℕ → ℕ
length_at blob at = number 256 (take 2 (drop at blob))

-- Place inside or at the end, and any record begun there whole? 27 "fewer than 2 bytes left means the end"
unfoldable pub record_at : List ℕ → ℕ → Answer Found
record_at blob at =
    ask (leb at (length blob)) 27
    (cond (ltb (length blob - at) 2)
    (result end)
    (let after = at + 2 + length_at blob at in ask (leb after (length blob)) 27 (result (record-to after))))

-- the next record's bytes, without their length; "with an empty part" at the end and at 27
abbrev pub bytes_of : List ℕ → ℕ → Answer Found → List ℕ
bytes_of blob at (result (record-to after)) = take (after - (at + 2)) (drop (at + 2) blob)
bytes_of blob at (result end) = []
bytes_of blob at (refused n) = []

unfoldable pub record_of : List ℕ → ℕ → List ℕ
record_of blob at = bytes_of blob at (record_at blob at)

-- ---- Whole blobs

-- records one after another, each after its length in two bytes
unfoldable pub blob_of : List (List ℕ) → List ℕ
blob_of [] = []
blob_of (r ∷ rs) = digits 256 2 (length r) ++ r ++ blob_of rs

-- two bytes hold each length
abbrev pub Short : List (List ℕ) → Type 0
Short [] = Unit {0}
Short (r ∷ rs) = (length r < 65536) × Short rs

-- from a place on, call after call, the blob gives these records and then the end
abbrev pub Gives : List ℕ → ℕ → List (List ℕ) → Type 0
Gives blob at [] = (record_at blob at ≡ result end) × (record_of blob at ≡ [])
Gives blob at (r ∷ rs) = (record_at blob at ≡ result (record-to (at + 2 + length r))) × (record_of blob at ≡ r) × Gives blob (at + 2 + length r) rs

-- ---- What the answer of the code says, and its promise

abbrev pub found_of : Result (std.Option ℕ) Refusal → Answer Found
found_of (Ok (Some after)) = result (record-to after)
found_of (Ok None) = result end
found_of (Err e) = refused (question e)

pub record Finds (blob : List ℕ) (at : ℕ) (r : Result (std.Option ℕ) Refusal) : Type 0 where
  pub is : found_of r ≡ record_at blob at
  pub bounds : IfOk r (λ found. IfSome found (λ after. (at + 2 ≤ after) × (after ≤ length blob)))
