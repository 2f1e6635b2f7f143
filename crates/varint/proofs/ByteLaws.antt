-- A value's bytes in each width, as the code computes them. Assumes nothing.
use Prim.Native.Nat.{ℕ, ◌+◌, ◌*◌, ◌/◌, ◌≤◌, ◌<◌}
use mathlib.Core.Path.{◌≡◌, refl, sym, ap, ◌∙◌}
use mathlib.Core.List.{List, [], ◌∷◌, ◌++◌}
use native.Mathlib.Omega.{arith}
use lib.ListN.{length, take, drop, get_or, length-drop}
use lib.Seq.{take-add, take_all, get_or-drop, length-take-le}
use Rattle.std.specs.Int.{from_be_bytes, w16, w32, w64}
use Rattle.std.specs.Prelude.{Option, None, Some}
use Rattle.std.specs.List.{slice_get}
use Rattle.wire.specs.Numbers.{digits, number_on, number}
use Rattle.wire.proofs.NumberLaws.{above, digits-split, number_on-append}

-- eight bytes are twice four
pub digits-eight : (v : ℕ) → digits 256 8 v ≡ digits 256 4 (v / 4294967296) ++ digits 256 4 v
unfolding above
digits-eight v =
    let e : v / 256 / 256 / 256 / 256 ≡ v / 4294967296 = omega arith in
    digits-split 256 4 4 v 8 refl ∙ rw e

number_on-four : (a : ℕ) (s : List ℕ) → 4 ≤ length s
    → number_on 256 a (take 4 s) ≡ a * 4294967296 + get_or s 0 0 * 16777216 + get_or s 1 0 * 65536 + get_or s 2 0 * 256 + get_or s 3 0
unfolding number_on
number_on-four a [] h = absurd (omega arith)
number_on-four a (b0 ∷ []) h = absurd (omega arith)
number_on-four a (b0 ∷ b1 ∷ []) h = absurd (omega arith)
number_on-four a (b0 ∷ b1 ∷ b2 ∷ []) h = absurd (omega arith)
number_on-four a (b0 ∷ b1 ∷ b2 ∷ b3 ∷ s) h = omega arith

-- four bytes from a place on
pub number-four : (s : List ℕ) (at : ℕ) → at + 4 ≤ length s
    → number 256 (take 4 (drop at s)) ≡ get_or s at 0 * 16777216 + get_or s (at + 1) 0 * 65536 + get_or s (at + 2) 0 * 256 + get_or s (at + 3) 0
unfolding number
number-four s at h =
    let z : at + 0 ≡ at = omega arith in
    let e = simp get_or-drop at (number_on-four 0 (drop at s) (rw length-drop (omega arith))) in
    omega (arith, rw z at e)

pub number-eight : (s : List ℕ) → 8 ≤ length s → number 256 (take 8 s) ≡ number 256 (take 4 (drop 0 s)) * 4294967296 + number 256 (take 4 (drop 4 s))
unfolding number
number-eight s h =
    let long : 4 ≤ length (drop 4 s) = rw length-drop (omega arith) in
    rw (take-add 4 4 s, number_on-append)
    (omega (arith, number_on-four (number_on 256 0 (take 4 s)) (drop 4 s) long, number_on-four 0 (drop 4 s) long))

-- ---- numbers as the library reads them, from the first bytes

low_two : (b : List ℕ) → length b ≡ 2 → from_be_bytes w16 b ≡ number 256 b
unfolding number number_on
low_two [] h = absurd (omega arith)
low_two (b0 ∷ []) h = absurd (omega arith)
low_two (b0 ∷ b1 ∷ []) h = omega arith
low_two (b0 ∷ b1 ∷ b2 ∷ b) h = absurd (omega arith)

low_four : (b : List ℕ) → length b ≡ 4 → from_be_bytes w32 b ≡ number 256 b
unfolding number
low_four b h =
    let all : take 4 b ≡ b = take_all 4 b (omega arith) in
    omega (arith, rw all at (number_on-four 0 b (omega arith)))

low_eight : (b : List ℕ) → length b ≡ 8 → from_be_bytes w64 b ≡ number 256 b
unfolding number
low_eight b h =
    let all : take 8 b ≡ b = take_all 8 b (omega arith) in
    let low : 4 ≤ length (drop 4 b) = rw length-drop (omega arith) in
    let split : number_on 256 0 b ≡ number_on 256 (number_on 256 0 (take 4 b)) (take 4 (drop 4 b)) = rw (take-add 4 4 b, number_on-append) at (ap (number_on 256 0) (sym all)) in
    omega (arith, split, number_on-four 0 b (omega arith), simp get_or-drop at (number_on-four (number_on 256 0 (take 4 b)) (drop 4 b) low))

long : (s b : List ℕ) {n : ℕ} → n ≤ length s → b ≡ take n s → length b ≡ n
long s b {n} h e = ap length e ∙ length-take-le n s h

pub two : (s b : List ℕ) → 2 ≤ length s → b ≡ take 2 s → from_be_bytes w16 b ≡ number 256 (take 2 s)
two s b h e = low_two b (long s b h e) ∙ ap (number 256) e

pub four : (s b : List ℕ) → 4 ≤ length s → b ≡ take 4 s → from_be_bytes w32 b ≡ number 256 (take 4 s)
four s b h e = low_four b (long s b h e) ∙ ap (number 256) e

pub eight : (s b : List ℕ) → 8 ≤ length s → b ≡ take 8 s → from_be_bytes w64 b ≡ number 256 (take 8 s)
eight s b h e = low_eight b (long s b h e) ∙ ap (number 256) e

-- the first byte, where there is one
pub no_byte : (s : List ℕ) → ◌≡◌ {A = Option ℕ} None (slice_get s 0) → length s < 1
no_byte [] e = omega arith
no_byte (x ∷ s) e = absurd cc

pub first_byte : (s : List ℕ) (b : ℕ) → ◌≡◌ {A = Option ℕ} (Some b) (slice_get s 0) → (1 ≤ length s) × (get_or s 0 0 ≡ b)
first_byte [] b e = absurd cc
first_byte (x ∷ s) b e = (omega arith, cc)

pub number-one : (s : List ℕ) → 1 ≤ length s → number 256 (take 1 s) ≡ get_or s 0 0
unfolding number number_on
number-one [] h = absurd (omega arith)
number-one (b ∷ s) h = omega arith
