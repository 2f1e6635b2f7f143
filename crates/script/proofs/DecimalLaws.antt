-- Numbers in decimal, read digit by digit. Assumes nothing.
use Rattle.std.specs.Prelude.{Some, None}
use Rattle.std.proofs.Common.{◌≡◌, ℕ, ◌+◌, ◌-◌, ◌*◌, ◌^◌, ◌<◌, ◌≤◌, true, false, ltb, List, [], ◌∷◌, map, length, get_or, drop, refl, le_refl, not-suc-le-zero, add-one, arith, drop_of_length-le, drop-cons, le-ltb, lt-ltb}
use Rattle.wire.specs.Numbers.{number_on, number}
use Rattle.script.specs.Scan.{all}
use Rattle.script.specs.Decimal.{is_decimal, decimal_value, number_of}
use Rattle.script.proofs.ScanLaws.{among_in, among_below, among-above, and-true, and-not-left, and-not-right}

pub decimal-is : (b : ℕ) → 48 ≤ b → b ≤ 57 → is_decimal b ≡ true
unfolding is_decimal
decimal-is b h k = among_in 48 57 b h k

pub decimal-low : (b : ℕ) → b < 48 → is_decimal b ≡ false
unfolding is_decimal
decimal-low b h = among_below 48 57 b h

pub decimal-high : (b : ℕ) → 57 < b → is_decimal b ≡ false
unfolding is_decimal
decimal-high b h = among-above 48 57 b h

-- ---- the answers of reading

abbrev pub value_of : List ℕ → ℕ
value_of s = number 10 (map decimal_value s)

pub number-none : (s : List ℕ) → length s ≡ 0 → None ≡ number_of s
unfolding number_of
number-none [] h = refl
number-none (b ∷ s) h = absurd (omega arith)

pub number-bad : (s : List ℕ) → all is_decimal s ≡ false → None ≡ number_of s
unfolding number_of
number-bad [] e = refl
number-bad (b ∷ s) e = rw (and-not-left (all is_decimal (b ∷ s)) (ltb (value_of (b ∷ s)) (2 ^ 64)) e)

pub number-large : (s : List ℕ) → 2 ^ 64 ≤ value_of s → None ≡ number_of s
unfolding number_of
number-large [] h = refl
number-large (b ∷ s) h =
    rw (and-not-right (all is_decimal (b ∷ s)) (ltb (value_of (b ∷ s)) (2 ^ 64)) (le-ltb (value_of (b ∷ s)) (2 ^ 64) h))

pub number-value : (s : List ℕ) → 0 < length s → all is_decimal s ≡ true → value_of s < 2 ^ 64 → Some (value_of s) ≡ number_of s
unfolding number_of
number-value [] h e l = absurd (not-suc-le-zero h)
number-value (b ∷ s) h e l =
    rw (and-true (all is_decimal (b ∷ s)) (ltb (value_of (b ∷ s)) (2 ^ 64)) e (lt-ltb (value_of (b ∷ s)) (2 ^ 64) l))

-- ---- one digit more

pub value-next : (s : List ℕ) (i v : ℕ) → i < length s
    → number_on 10 v (map decimal_value (drop i s)) ≡ number_on 10 (v * 10 + (get_or s i 0 - 48)) (map decimal_value (drop (i + 1) s))
unfolding number_on
value-next s i v h = rw (add-one, drop-cons s i 0 h)

pub value-end : (s : List ℕ) (i v : ℕ) → length s ≤ i → number_on 10 v (map decimal_value (drop i s)) ≡ v
unfolding number_on
value-end s i v h = rw (drop_of_length-le s h)

pub value-least : (v : ℕ) (ds : List ℕ) → v ≤ number_on 10 v ds
unfolding number_on
value-least v [] = le_refl v
value-least v (d ∷ ds) = omega (arith, value-least (v * 10 + d) ds)
