-- What is written is read back: hex, a number, and a run. Assumes nothing.
use Prim.Native.Nat.{ℕ, zero, suc, ◌+◌, ◌*◌, ◌-◌, ◌/◌, ◌%◌, ◌^◌, ◌<◌}
use mathlib.Core.Path.{◌≡◌, refl, sym, ap, ap₂, ◌∙◌}
use mathlib.Core.Bool.{Bool, true, false, false≢true}
use mathlib.Core.Logic.{⊎_elim}
use mathlib.Core.List.{List, [], ◌∷◌, ◌++◌, map, append-nil}
use native.Mathlib.Omega.{arith}
use lib.ListN.{length, get_or}
use lib.Dec.{lit<}
use borrow.Author.Tests.{lt-ltb, le-ltb, ne_eqb}
use Rattle.wire.specs.Numbers.{digits, number}
use Rattle.wire.proofs.ListLaws.{lt-or-le}
use Rattle.wire.proofs.NumberLaws.{above, number_digits}
use Rattle.wire.proofs.SumLaws.{and_left, and_right}
use Rattle.script.specs.Scan.{all, distance, quote, star, dash, at, underscore}
use Rattle.script.specs.Decimal.{is_decimal, decimal_value, number_of}
use Rattle.script_writing.specs.Decimal.{decimal_letter, decimal_width, decimal_digits, decimal_text}
use Rattle.script_writing.specs.Digits.{places}
use Rattle.script.specs.Hex.{is_hex, hex_digit}
use Rattle.script_writing.specs.Hex.{hex_text}
use Rattle.script.specs.Piece.{bytes, hex_of, piece_of}
use Rattle.std.specs.Prelude.{Some}
use Rattle.script.proofs.ScanLaws.{all-at, and-true, only-not}
use Rattle.script.proofs.DecimalLaws.{decimal-is, value_of, number-value}
use Rattle.script_writing.proofs.DigitLaws.{limit, letters-snoc, length-decimal_text}
use Rattle.script_writing.proofs.HexLaws.{Bytes, length-hex_text, hex_text-hex, pairs-hex_text}
use Rattle.script.proofs.PieceLaws.{hex-bytes, piece-hex}

-- ---- hex

-- the text of one byte or more is hex of these bytes
pub hex-back : (s : List ℕ) → Bytes s → 0 < length s → hex_of (hex_text s) ≡ bytes s
hex-back s f h =
    sym (hex-bytes (hex_text s) (omega (arith, length-hex_text s)) (omega (arith, length-hex_text s)) (hex_text-hex s f))
    ∙ ap bytes (pairs-hex_text s f)

-- a byte that is no hex digit does not stand among hex digits
not-here : (c x : ℕ) → is_hex c ≡ false → is_hex x ≡ true → x ≡ c → ⊥
not-here c x p q e = false≢true (sym p ∙ ap is_hex (sym e) ∙ q)

-- a search goes past elements that pass a test which what is searched for does not pass
pub distance-past : (q : ℕ → Bool) (c : ℕ) (s t : List ℕ) → q c ≡ false → all q s ≡ true → distance c (s ++ t) ≡ length s + distance c t
unfolding distance
distance-past q c [] t p e = omega arith
distance-past q c (x ∷ s) t p e =
    rw (ne_eqb x c (λ d. false≢true (sym p ∙ ap q (sym d) ∙ and_left (q x) (all q s) e)))
    (omega (arith, distance-past q c s t p (and_right (q x) (all q s) e)))

distance-nil : (c : ℕ) → distance c [] ≡ 0
unfolding distance
distance-nil c = refl

pub distance_none : (c : ℕ) (s : List ℕ) → is_hex c ≡ false → all is_hex s ≡ true → distance c s ≡ length s
distance_none c s p q = omega (arith, rw append-nil at (distance-past is_hex c s [] p q), distance-nil c)

pub first-not : (c : ℕ) (s : List ℕ) → is_hex c ≡ false → all is_hex s ≡ true → 0 < length s → get_or s 0 0 ≡ c → ⊥
first-not c s p q h = not-here c (get_or s 0 0) p (all-at is_hex s 0 h q)

-- and so a piece that gives the bytes back
pub hex-piece : (s last : List ℕ) → Bytes s → 0 < length s → piece_of (hex_text s) last ≡ bytes s
unfolding is_hex hex_digit
hex-piece s last f h =
    let t = hex_text s in
    let q : all is_hex t ≡ true = hex_text-hex s f in
    let long : length t ≡ 2 * length s = length-hex_text s in
    sym
    (piece-hex t last (only-not dash t (λ e. omega arith)) (only-not underscore t (λ e. omega arith)) (first-not at t refl q) (first-not quote t refl q)
    (omega (arith, distance_none star t refl q)))
    ∙ hex-back s f h

-- ---- a number

values : (ds : List ℕ) → map decimal_value (map decimal_letter ds) ≡ ds
values [] = refl
values (d ∷ ds) = let e : 48 + d - 48 ≡ d = omega arith in ap₂ (λ (x : ℕ) (t : List ℕ). x ∷ t) e (values ds)

-- no digit stands above the counted ones
above-places : (n v : ℕ) → v < limit 10 n → above 10 (places 10 n v) v ≡ 0
unfolding places above
above-places zero v h = omega arith
above-places (suc n) v h =
    ⊎_elim
    (λ p. rw (lt-ltb v 10 p) (omega arith))
    (λ q. rw (le-ltb v 10 q) (above-places n (v / 10) (omega arith)))
    (lt-or-le v 10)

all_append : (q : ℕ → Bool) (s t : List ℕ) → all q s ≡ true → all q t ≡ true → all q (s ++ t) ≡ true
all_append q [] t e f = f
all_append q (x ∷ s) t e f = and-true (q x) (all q (s ++ t)) (and_left (q x) (all q s) e) (all_append q s t (and_right (q x) (all q s) e) f)

one-decimal : (d : ℕ) → d < 10 → all is_decimal ((48 + d) ∷ []) ≡ true
one-decimal d h = and-true (is_decimal (48 + d)) true (decimal-is (48 + d) (omega arith) (omega arith)) refl

none-decimal : (v : ℕ) → all is_decimal (decimal_digits 0 v) ≡ true
unfolding decimal_digits digits
none-decimal v = refl

digits_decimal : (n v : ℕ) → all is_decimal (decimal_digits n v) ≡ true
unfolding decimal_digits
digits_decimal zero v = none-decimal v
digits_decimal (suc n) v =
    rw (letters-snoc 10 decimal_letter n v)
    (all_append is_decimal (decimal_digits n (v / 10)) ((48 + v % 10) ∷ []) (digits_decimal n (v / 10)) (one-decimal (v % 10) (omega arith)))

places-pos : (n v : ℕ) → 0 < places 10 (suc n) v
unfolding places
places-pos n v = ⊎_elim (λ p. rw (lt-ltb v 10 p) (lit< tt)) (λ q. rw (le-ltb v 10 q) (omega arith)) (lt-or-le v 10)

pub width-pos : (v : ℕ) → 0 < decimal_width v
unfolding decimal_width
width-pos v = places-pos 19 v

value-back : (v : ℕ) → v < 2 ^ 64 → value_of (decimal_text v) ≡ v
unfolding decimal_text decimal_digits decimal_width
value-back v h = ap (λ (ds : List ℕ). number 10 ds) (values (digits 10 (places 10 20 v) v)) ∙ number_digits 10 (places 10 20 v) v (above-places 20 v (omega arith))

pub text-decimal : (v : ℕ) → all is_decimal (decimal_text v) ≡ true
unfolding decimal_text
text-decimal v = digits_decimal (decimal_width v) v

-- the text of a number below 2^64 is read as the number
pub number-back : (v : ℕ) → v < 2 ^ 64 → number_of (decimal_text v) ≡ Some v
unfolding decimal_width
number-back v h =
    let e : value_of (decimal_text v) ≡ v = value-back v h in
    sym (number-value (decimal_text v) (omega (arith, length-decimal_text v, width-pos v)) (text-decimal v) (omega arith))
    ∙ ap (λ (x : ℕ). Some x) e
