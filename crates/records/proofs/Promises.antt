-- What `next_record` promises, by what its code has tested; what an answer other than a record says of the part. Assumes nothing.
use Prim.Native.Nat.{ℕ, ◌+◌, ◌-◌, ◌≤◌, ◌<◌}
use mathlib.Core.Path.{◌≡◌, refl, ap}
use mathlib.Core.List.{List, []}
use native.Mathlib.Omega.{arith}
use lib.ListN.{length}
use borrow.Author.Tests.{lt-ltb, le-ltb, le-leb, lt-leb}
use Rattle.std.specs.Prelude.{Result, Ok, Err, Some, None}
use Rattle.std.specs.Prelude as std
use Rattle.wire.specs.declared.refusals.Refusal.{Refusal}
use Rattle.wire.specs.declared.refusals.Refusal.TheVariants as no
use Rattle.records.specs.Records.{length_at, record_at, bytes_of, record_of, found_of, Finds}

module _ (blob : List ℕ) (at : ℕ) where
  pub finds-outside : length blob < at → Finds blob at (Err no.RecordCut)
  unfolding record_at
  finds-outside h = record { is = rw (lt-leb at (length blob) h); bounds = tt }

  module _ (inside : at ≤ length blob) where
    pub finds-end : length blob - at < 2 → Finds blob at (Ok None)
    unfolding record_at
    finds-end h = record { is = rw (le-leb at (length blob) inside, lt-ltb (length blob - at) 2 h); bounds = tt }

    module _ (begun : 2 ≤ length blob - at) (l : ℕ) (e : l ≡ length_at blob at) where
      pub finds-cut : length blob - (at + 2) < l → Finds blob at (Err no.RecordCut)
      unfolding record_at
      finds-cut h =
          record {
            is = rw (le-leb at (length blob) inside, le-ltb (length blob - at) 2 begun, ← e, lt-leb (at + 2 + l) (length blob) (omega arith));
            bounds = tt;
          }

      pub finds-record : l ≤ length blob - (at + 2) → Finds blob at (Ok (Some (at + 2 + l)))
      unfolding record_at
      finds-record h =
          record {
            is = rw (le-leb at (length blob) inside, le-ltb (length blob - at) 2 begun, ← e, le-leb (at + 2 + l) (length blob) (omega arith));
            bounds = (omega arith, omega arith);
          }

  -- the part by the answer
  pub part_of : (r : Result (std.Option ℕ) Refusal) → Finds blob at r → bytes_of blob at (found_of r) ≡ record_of blob at
  unfolding record_of
  part_of r f = ap (bytes_of blob at) f.is

  pub no_part : (r : Result (std.Option ℕ) Refusal) → Finds blob at r → ((after : ℕ) → r ≡ Ok (Some after) → ⊥) → [] ≡ record_of blob at
  no_part (Ok (Some after)) f h = absurd (h after refl)
  no_part (Ok None) f h = part_of (Ok None) f
  no_part (Err e) f h = part_of (Err e) f
