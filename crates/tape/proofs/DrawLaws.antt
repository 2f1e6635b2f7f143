-- Draws: bytes of the tape, and the numbers that 4 and 8 of them make. Assumes nothing.
use mathlib.Core.Path.{◌≡◌, refl, ap}
use mathlib.Core.List.{List, [], ◌∷◌}
use Rattle.std.specs.Int.{w64, from_le_bytes}
use Prim.Native.Nat.{ℕ, zero, suc, ◌+◌, ◌*◌, ◌%◌, ◌≤◌}
use native.Mathlib.Nat.{mod-lt}
use native.Mathlib.Numerals.{add-one}
use native.Mathlib.Omega.{arith}
use lib.ListN.{length, take, drop, get_or}
use lib.Seq.{drop-cons}
use Rattle.tape.specs.Tape.{rand_bytes, lowest_first, next_u64}

pub length-rand_bytes : (n : ℕ) (tape : List ℕ) (at : ℕ) → length (rand_bytes n tape at) ≡ n
unfolding rand_bytes
length-rand_bytes zero tape at = refl
length-rand_bytes (suc n) tape at = ap suc (length-rand_bytes n tape (at + 1))

-- bytes that are on the tape
pub rand_bytes-part : (n : ℕ) (tape : List ℕ) (at : ℕ) → at + n ≤ length tape → rand_bytes n tape at ≡ take n (drop at tape)
unfolding rand_bytes
rand_bytes-part zero tape at h = refl
rand_bytes-part (suc n) tape at h =
    rw (drop-cons tape at 0 (omega arith), add-one at)
    (ap (λ (l : List ℕ). get_or tape at 0 ∷ l) (rand_bytes-part n tape (suc at) (omega arith)))

-- four drawn bytes, and eight by their halves
pub four_bytes : (tape : List ℕ) (at : ℕ)
    → lowest_first (rand_bytes 4 tape at)
    ≡ get_or tape at 0 + 256 * get_or tape (at + 1) 0 + 65536 * get_or tape (at + 2) 0 + 16777216 * get_or tape (at + 3) 0
unfolding lowest_first rand_bytes
four_bytes tape at =
    let b : at + 1 + 1 ≡ at + 2 = omega arith in
    let c : at + 2 + 1 ≡ at + 3 = omega arith in
    rw (b, c) (omega arith)

pub two-halves : (tape : List ℕ) (at : ℕ)
    → next_u64 tape at ≡ lowest_first (rand_bytes 4 tape at) + 4294967296 * lowest_first (rand_bytes 4 tape (at + 4))
unfolding next_u64 lowest_first rand_bytes
two-halves tape at =
    let b : at + 1 + 1 + 1 + 1 ≡ at + 4 = omega arith in
    rw b (omega arith)

-- eight bytes as a number
pub eight-bytes : (bs : List ℕ) → length bs ≡ 8 → from_le_bytes w64 bs ≡ lowest_first bs
unfolding lowest_first
eight-bytes (a ∷ b ∷ c ∷ d ∷ e ∷ f ∷ g ∷ h ∷ []) n = omega arith
eight-bytes [] n = absurd (omega (arith, n))
eight-bytes (a ∷ []) n = absurd (omega (arith, n))
eight-bytes (a ∷ b ∷ []) n = absurd (omega (arith, n))
eight-bytes (a ∷ b ∷ c ∷ []) n = absurd (omega (arith, n))
eight-bytes (a ∷ b ∷ c ∷ d ∷ []) n = absurd (omega (arith, n))
eight-bytes (a ∷ b ∷ c ∷ d ∷ e ∷ []) n = absurd (omega (arith, n))
eight-bytes (a ∷ b ∷ c ∷ d ∷ e ∷ f ∷ []) n = absurd (omega (arith, n))
eight-bytes (a ∷ b ∷ c ∷ d ∷ e ∷ f ∷ g ∷ []) n = absurd (omega (arith, n))
eight-bytes (a ∷ b ∷ c ∷ d ∷ e ∷ f ∷ g ∷ h ∷ x ∷ l) n = absurd (omega (arith, n))

pub mod-le : (x i : ℕ) → x % (i + 1) ≤ i
mod-le x i = omega (arith, mod-lt x {m = i + 1} (omega arith))
