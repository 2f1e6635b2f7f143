-- A parameter whose id and length are one byte each: a byte below 64 is a varint of its own value. Assumes nothing.
use Prim.Native.Nat.{ℕ, ◌-◌, ◌≤◌, ◌<◌}
use mathlib.Core.Path.{◌≡◌}
use mathlib.Core.Bool.{true, ◌&&◌}
use mathlib.Core.Logic.{⊎_elim}
use mathlib.Core.List.{List}
use native.Mathlib.Omega.{arith}
use lib.ListN.{length, drop, get_or, length-drop}
use lib.Seq.{get_or-drop}
use lib.Dec.{ltb, lit<}
use borrow.Author.Tests.{lt-ltb, le-ltb, ltb-true}
use Rattle.wire.proofs.ListLaws.{lt-or-le}
use Rattle.wire.proofs.SumLaws.{and_left, and_right}
use Rattle.varint.specs.Varint.{Found}
use Rattle.varint.specs.declared.Varint.{Varint}
use Rattle.std.specs.Prelude.{Ok}
use Rattle.varint.proofs.ByteLaws.{number-one}
use Rattle.varint.proofs.Promises.{found}
use Rattle.fingerprint_parameters.specs.Code.{ParameterAs, short_of}
use Rattle.fingerprint_parameters.proofs.OneParameter.{no_value, whole-parameter}

-- a varint of one byte
abbrev one_byte : ℕ → Varint
one_byte b = record { value = b; width = 1 }

found-byte : (s : List ℕ) → 1 ≤ length s → get_or s 0 0 < 64 → Found s (Ok (one_byte (get_or s 0 0)))
found-byte s l h = found s 0 (omega arith) (lit< tt) l (get_or s 0 0) (rw (number-one s l) (omega arith))

module _ (bs : List ℕ) (l : 2 ≤ length bs) (t : (ltb (get_or bs 0 0) 64 && ltb (get_or bs 1 0) 64) ≡ true) where
  first_below : get_or bs 0 0 < 64
  first_below = ltb-true (get_or bs 0 0) 64 (and_left (ltb (get_or bs 0 0) 64) (ltb (get_or bs 1 0) 64) t)

  second_below : get_or bs 1 0 < 64
  second_below = ltb-true (get_or bs 1 0) 64 (and_right (ltb (get_or bs 0 0) 64) (ltb (get_or bs 1 0) 64) t)

  id-found : Found bs (Ok (one_byte (get_or bs 0 0)))
  id-found = found-byte bs (omega arith) first_below

  length_found : Found (drop 1 bs) (Ok (one_byte (get_or bs 1 0)))
  length_found =
      let second : get_or (drop 1 bs) 0 0 ≡ get_or bs 1 0 = get_or-drop 1 bs 0 0 in
      rw second at (found-byte (drop 1 bs) (omega (arith, length-drop 1 bs)) (rw second second_below))

  pub short-found : ParameterAs (short_of (length bs - 2) (get_or bs 0 0) (get_or bs 1 0)) bs
  unfolding short_of
  short-found =
      let id = one_byte (get_or bs 0 0) in
      let size = one_byte (get_or bs 1 0) in
      ⊎_elim
      (λ p. rw (lt-ltb (length bs - 2) (get_or bs 1 0) p) (no_value bs id id-found size length_found p))
      (λ q. rw (le-ltb (length bs - 2) (get_or bs 1 0) q) (whole-parameter bs id id-found size length_found q))
      (lt-or-le (length bs - 2) (get_or bs 1 0))
