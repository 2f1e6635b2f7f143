-- Hex: each case of a digit, and the bytes of pairs. Assumes nothing.
use lib.ListN.{get_or-append}
use Rattle.std.proofs.Common.{◌≡◌, ℕ, zero, suc, ◌+◌, ◌-◌, ◌*◌, ◌/◌, ◌<◌, ◌≤◌, true, false, List, [], ◌∷◌, ◌++◌, length, get_or, drop, sym, refl, ap, ap₂, ◌∙◌, arith, length-drop, length-append, get_or-drop, drop_at, drop-drop, ltb-true, le-ltb, lt-ltb}
use Rattle.script.specs.Hex.{hex_digit, is_hex, hex_byte, pairs}
use Rattle.script.proofs.ScanLaws.{among_in, among_below, among-above}

-- ---- a digit, by the range that its byte lies in

module _ (b : ℕ) where
  pub digit_low : b < 48 → 16 ≡ hex_digit b
  unfolding hex_digit
  digit_low h = rw (among_below 48 57 b h, among_below 65 70 b (omega arith), among_below 97 102 b (omega arith))

  pub digit-decimal : 48 ≤ b → b ≤ 57 → b - 48 ≡ hex_digit b
  unfolding hex_digit
  digit-decimal h k = rw (among_in 48 57 b h k)

  pub digit-between : 57 < b → b < 65 → 16 ≡ hex_digit b
  unfolding hex_digit
  digit-between h k = rw (among-above 48 57 b h, among_below 65 70 b k, among_below 97 102 b (omega arith))

  pub digit-upper : 65 ≤ b → b ≤ 70 → b - 55 ≡ hex_digit b
  unfolding hex_digit
  digit-upper h k = rw (among-above 48 57 b (omega arith), among_in 65 70 b h k)

  pub digit-between-2 : 70 < b → b < 97 → 16 ≡ hex_digit b
  unfolding hex_digit
  digit-between-2 h k = rw (among-above 48 57 b (omega arith), among-above 65 70 b h, among_below 97 102 b k)

  pub digit-lower : 97 ≤ b → b ≤ 102 → b - 87 ≡ hex_digit b
  unfolding hex_digit
  digit-lower h k = rw (among-above 48 57 b (omega arith), among-above 65 70 b (omega arith), among_in 97 102 b h k)

  pub digit-high : 102 < b → 16 ≡ hex_digit b
  unfolding hex_digit
  digit-high h = rw (among-above 48 57 b (omega arith), among-above 65 70 b (omega arith), among-above 97 102 b h)

  pub hex-below : is_hex b ≡ true → hex_digit b < 16
  unfolding is_hex
  hex-below e = ltb-true (hex_digit b) 16 e

  pub hex-is : hex_digit b < 16 → is_hex b ≡ true
  unfolding is_hex
  hex-is h = lt-ltb (hex_digit b) 16 h

  pub hex-not : 16 ≤ hex_digit b → is_hex b ≡ false
  unfolding is_hex
  hex-not h = le-ltb (hex_digit b) 16 h

-- ---- pairs of digits

pub length_pairs : (s : List ℕ) → length (pairs s) ≡ length s / 2
unfolding pairs
length_pairs [] = omega arith
length_pairs (a ∷ []) = omega arith
length_pairs (a ∷ b ∷ s) = omega (arith, length_pairs s)

pub pairs-at : (s : List ℕ) (i : ℕ) → i < length s / 2 → get_or (pairs s) i 0 ≡ hex_byte (get_or s (2 * i) 0) (get_or s (2 * i + 1) 0)
unfolding pairs
pairs-at [] i h = absurd (omega arith)
pairs-at (a ∷ []) i h = absurd (omega arith)
pairs-at (a ∷ b ∷ s) zero h = refl
pairs-at (a ∷ b ∷ s) (suc i) h =
    let e : 2 * suc i ≡ suc (suc (2 * i)) = omega arith in
    let f : 2 * suc i + 1 ≡ suc (suc (2 * i + 1)) = omega arith in
    pairs-at s i (omega arith)
    ∙ ap (λ (k : ℕ). hex_byte (get_or (a ∷ b ∷ s) k 0) (get_or s (2 * i + 1) 0)) (sym e)
    ∙ ap (λ (k : ℕ). hex_byte (get_or (a ∷ b ∷ s) (2 * suc i) 0) (get_or (a ∷ b ∷ s) k 0)) (sym f)

-- the next pair of those that are left: its byte, and what is left then
pub pair-next : (s pair rest : List ℕ) (n : ℕ) → drop (2 * n) s ≡ pair ++ rest → length pair ≡ 2
    → (n < length (pairs s)) × (hex_byte (get_or pair 0 0) (get_or pair 1 0) ≡ get_or (pairs s) n 0) × (rest ≡ drop (2 * (n + 1)) s)
pair-next s pair rest n e h =
    let long : length s - 2 * n ≡ 2 + length rest = sym (length-drop (2 * n) s) ∙ ap length e ∙ length-append pair rest ∙ omega arith in
    let within : n < length s / 2 = omega arith in
    let at : (i : ℕ) → i < 2 → get_or s (2 * n + i) 0 ≡ get_or pair i 0 =
    λ i l. sym (get_or-drop (2 * n) s i 0) ∙ ap (λ (t : List ℕ). get_or t i 0) e ∙ get_or-append pair rest 0 i (omega arith) in
    let first : get_or s (2 * n) 0 ≡ get_or pair 0 0 = ap (λ (k : ℕ). get_or s k 0) (omega arith) ∙ at 0 (omega arith) in (
      omega (arith, length_pairs s, within),
      sym (pairs-at s n within ∙ ap₂ hex_byte first (at 1 (omega arith))),
      sym (drop_at pair rest 2 h) ∙ ap (λ (t : List ℕ). drop 2 t) (sym e) ∙ drop-drop 2 (2 * n) s ∙ ap (λ (k : ℕ). drop k s) (omega arith),
    )
