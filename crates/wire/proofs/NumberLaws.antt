-- Digits and the numbers that they write. Assumes nothing.
use Prim.Native.Nat.{ℕ, zero, suc, ◌+◌, ◌-◌, ◌*◌, ◌/◌, ◌%◌, ◌≤◌, ◌<◌}
use mathlib.Core.Path.{◌≡◌, refl, ◌∙◌}
use mathlib.Core.List.{List, [], ◌∷◌, ◌++◌, append_assoc, append-nil}
use native.Mathlib.Nat.{div-add-mod', mul-add-div_right, mul-add-mod_self_right, div-eq_of_lt, mod-eq_of_lt}
use native.Mathlib.Omega.{arith}
use lib.ListN.{length, take, drop, get_or, length-append}
use lib.Seq.{get_or-drop, drop_at}
use Rattle.std.specs.Int.{to_be_bytes, w64}
use Rattle.wire.specs.Numbers.{Bytes, digits, number_on, number}

pub length_digits : (b n v : ℕ) → length (digits b n v) ≡ n
unfolding digits
length_digits b zero v = refl
length_digits b (suc n) v = rw (length-append, length_digits b n (v / b)) (omega arith)

-- what is above the n low digits of v
unfoldable pub above : ℕ → ℕ → ℕ → ℕ
above b zero v = v
above b (suc n) v = above b n (v / b)

number_on-snoc : (b : ℕ) (s : List ℕ) (a d : ℕ) → number_on b a (s ++ (d ∷ [])) ≡ number_on b a s * b + d
unfolding number_on
number_on-snoc b [] a d = refl
number_on-snoc b (x ∷ s) a d = number_on-snoc b s (a * b + x) d

-- a number's low digits, read after what is above them, make the number
pub number_on-digits : (b n v : ℕ) → number_on b (above b n v) (digits b n v) ≡ v
unfolding digits above number_on
number_on-digits b zero v = refl
number_on-digits b (suc n) v = rw (number_on-snoc, number_on-digits b n (v / b)) (div-add-mod' v b)

-- n digits write every number that has no more
pub number_digits : (b n v : ℕ) → above b n v ≡ 0 → number b (digits b n v) ≡ v
unfolding number
number_digits b n v e = rw e at (number_on-digits b n v)

pub number_on-append : (b : ℕ) (s t : List ℕ) (a : ℕ) → number_on b a (s ++ t) ≡ number_on b (number_on b a s) t
unfolding number_on
number_on-append b [] t a = refl
number_on-append b (x ∷ s) t a = number_on-append b s t (a * b + x)

-- the low digits stand after the high ones
pub digits-split : (b m n v k : ℕ) → k ≡ m + n → digits b k v ≡ digits b m (above b n v) ++ digits b n v
unfolding digits above
digits-split b m zero v k e = let z : k ≡ m = omega arith in rw (z, append-nil)
digits-split b m (suc n) v zero e = absurd (omega arith)
digits-split b m (suc n) v (suc k) e = rw (digits-split b m n (v / b) k (omega arith), append_assoc)

-- ---- back: digits make a number that has them

above-suc : (b n v : ℕ) → above b (suc n) v ≡ above b n v / b
unfolding above
above-suc b zero v = refl
above-suc b (suc n) v = above-suc b n (v / b)

module _ (b a d : ℕ) (h : d < b) where
  high_digit : (a * b + d) / b ≡ a
  high_digit = rw (mul-add-div_right {m = b} (omega arith) a d, div-eq_of_lt h) (omega arith)

  low_digit : (a * b + d) % b ≡ d
  low_digit = rw (mul-add-mod_self_right a b d) (mod-eq_of_lt h)

-- each digit is below the base; those of base 256 are `Bytes`
abbrev pub Digits : ℕ → List ℕ → Type 0
Digits b ds = (i : ℕ) → get_or ds i 0 < b

pub above-number_on : (b : ℕ) (ds : List ℕ) (a : ℕ) → Digits b ds → above b (length ds) (number_on b a ds) ≡ a
unfolding above number_on
above-number_on b [] a h = refl
above-number_on b (d ∷ ds) a h =
    above-suc b (length ds) (number_on b (a * b + d) ds) ∙ rw (above-number_on b ds (a * b + d) (λ i. h (suc i))) (high_digit b a d (h 0))

digits-number_on : (b : ℕ) (ds : List ℕ) (a : ℕ) → Digits b ds → digits b (length ds) (number_on b a ds) ≡ ds
unfolding digits number_on
digits-number_on b [] a h = refl
digits-number_on b (d ∷ ds) a h =
    digits-split b 1 (length ds) (number_on b (a * b + d) ds) (suc (length ds)) (omega arith)
    ∙ rw (above-number_on b ds (a * b + d) (λ i. h (suc i)), digits-number_on b ds (a * b + d) (λ i. h (suc i)), low_digit b a d (h 0))

pub digits_number : (b : ℕ) (ds : List ℕ) → Digits b ds → digits b (length ds) (number b ds) ≡ ds
unfolding number
digits_number b ds h = digits-number_on b ds 0 h

-- ---- bytes

pub bytes_take : (n : ℕ) (s : List ℕ) → Bytes s → Bytes (take n s)
bytes_take zero s h i = omega arith
bytes_take (suc n) [] h i = omega arith
bytes_take (suc n) (x ∷ s) h zero = h 0
bytes_take (suc n) (x ∷ s) h (suc i) = bytes_take n s (λ j. h (suc j)) i

pub bytes_drop : (n : ℕ) (s : List ℕ) → Bytes s → Bytes (drop n s)
bytes_drop n s h i = rw get_or-drop (h (n + i))

-- eight bytes, each with its own quotient
bytes-eight : (n : ℕ) → to_be_bytes w64 n ≡ digits 256 8 n
unfolding digits
bytes-eight n =
    let q7 : n / 72057594037927936 ≡ n / 256 / 256 / 256 / 256 / 256 / 256 / 256 = omega arith in
    let q6 : n / 281474976710656 ≡ n / 256 / 256 / 256 / 256 / 256 / 256 = omega arith in
    let q5 : n / 1099511627776 ≡ n / 256 / 256 / 256 / 256 / 256 = omega arith in
    let q4 : n / 4294967296 ≡ n / 256 / 256 / 256 / 256 = omega arith in
    let q3 : n / 16777216 ≡ n / 256 / 256 / 256 = omega arith in
    let q2 : n / 65536 ≡ n / 256 / 256 = omega arith in
    rw (q7, q6, q5, q4, q3, q2)

-- the last of them are the low ones
pub low-bytes : (n v : ℕ) → n ≤ 8 → drop (8 - n) (to_be_bytes w64 v) ≡ digits 256 n v
low-bytes n v h =
    rw (bytes-eight v, digits-split 256 (8 - n) n v 8 (omega arith))
    (drop_at (digits 256 (8 - n) (above 256 n v)) (digits 256 n v) (8 - n) (length_digits 256 (8 - n) (above 256 n v)))

-- two bytes, as `be16` reads them
pub number-two : (s : List ℕ) → 2 ≤ length s → number 256 (take 2 s) ≡ get_or s 0 0 * 256 + get_or s 1 0
unfolding number number_on
number-two [] h = absurd (omega arith)
number-two (a ∷ []) h = absurd (omega arith)
number-two (a ∷ b ∷ s) h = omega arith
