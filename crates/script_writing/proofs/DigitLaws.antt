-- The digits of a number in any base: counted, and written from the last one on, each by its letter. Decimal and hex are two of it.
-- Assumes nothing.
use Prim.Native.Nat.{ℕ, zero, suc, ◌+◌, ◌*◌, ◌-◌, ◌/◌, ◌%◌, ◌^◌, ◌≤◌, ◌<◌}
use mathlib.Core.Path.{◌≡◌, refl, sym, ap, ◌∙◌}
use mathlib.Core.Bool.{Bool, true, false, cond}
use mathlib.Core.Logic.{⊎_elim}
use mathlib.Core.List.{List, [], ◌∷◌, ◌++◌, map, append_assoc, append-nil, map-append}
use native.Mathlib.Nat.{not-suc-le-zero, le_refl, div-lt_iff_lt-mul, le-div_iff_mul-le, pow-suc, mul_assoc, one-le-pow, mul-le-mul_right}
use native.Mathlib.Numerals.{unary_clauses}
use native.Mathlib.Omega.{arith}
use lib.Dec.{ltb}
use lib.ListN.{length, take, drop, set, length-append, length-map, length-set, length-drop}
use lib.Seq.{drop-length, length-take-le, take_at, drop_at, drop-drop}
use borrow.Author.Tests.{lt-ltb, le-ltb}
use borrow.Rule.Slice.PartMut.{mid_of, put_mid}
use Rattle.wire.specs.Front.{front}
use Rattle.wire.specs.Numbers.{digits}
use Rattle.wire.proofs.ListLaws.{lt-or-le, drop-set-here}
use Rattle.wire.proofs.NumberLaws.{length_digits}
use Rattle.script_writing.specs.Digits.{places}
use Rattle.script_writing.specs.Decimal.{decimal_letter, decimal_width, decimal_digits, decimal_text}
use Rattle.script_writing.specs.Hex.{hex_letter, hex_width, hex_digits}

-- ---- how many digits

-- the first number with more than n digits
abbrev pub limit : ℕ → ℕ → ℕ
limit base zero = 1
limit base (suc n) = limit base n * base

pub places-small : (base n v : ℕ) → v < base → places base (suc n) v ≡ 1
unfolding places
places-small base n v h = rw (lt-ltb v base h)

pub places-large : (base n v : ℕ) → base ≤ v → places base (suc n) v ≡ suc (places base n (v / base))
unfolding places
places-large base n v h = rw (le-ltb v base h)

pub places-most : (base n v : ℕ) → places base n v ≤ n
unfolding places
places-most base zero v = omega arith
places-most base (suc n) v = go (ltb v base) (places-most base n (v / base))
  where
    go : (t : Bool) → places base n (v / base) ≤ n → cond t 1 (suc (places base n (v / base))) ≤ suc n
    go true h = omega arith
    go false h = omega arith

-- the logarithm is one less
pub places-log : (base n v k : ℕ) → 0 < base → k + 1 ≤ n → base ^ k ≤ v → v < base * base ^ k → k + 1 ≡ places base n v
places-log base zero v k b h l u = absurd (omega arith)
places-log base (suc n) v zero b h l u = omega (arith, places-small base n v (omega (arith, simp unary_clauses at u)))
places-log base (suc n) v (suc k) b h l u =
    let large : base ^ k * base ≤ v = rw pow-suc at l in
    let below : v < base * base ^ k * base = rw mul_assoc (rw pow-suc at u) in
    let one : 1 ≤ base ^ k = one-le-pow k base b in
    let first : base ≤ v = omega (arith, large, mul-le-mul_right base one) in
    let next = places-log base n (v / base) k b (omega arith) ((le-div_iff_mul-le b).1 large) ((div-lt_iff_lt-mul b).1 below) in
    omega (arith, next, places-large base n v first)

-- any count of digits that is enough for the number will do
pub places-enough : (base n m v : ℕ) → 0 < n → 0 < m → 0 < base → v < base ^ n → v < base ^ m → places base n v ≡ places base m v
places-enough base zero m v p q b h k = absurd (omega arith)
places-enough base (suc n) zero v p q b h k = absurd (omega arith)
places-enough base (suc n) (suc m) v p q b h k =
    ⊎_elim
    (λ l. places-small base n v l ∙ sym (places-small base m v l))
    (λ l.
    let first : v / base < base ^ n = (div-lt_iff_lt-mul b).1 (rw pow-suc at h) in
    let second : v / base < base ^ m = (div-lt_iff_lt-mul b).1 (rw pow-suc at k) in
    places-large base n v l ∙ ap suc (places-enough base n m (v / base) (some n h l) (some m k l) b first second) ∙ sym (places-large base m v l))
    (lt-or-le v base)
  where
    some : (n : ℕ) → v < base ^ suc n → base ≤ v → 0 < n
    some zero h l = let first : v < base ^ zero * base = rw pow-suc at h in absurd (omega (arith, simp unary_clauses at first))
    some (suc n) h l = omega arith

pub decimal-width-is : (v : ℕ) → v < 2 ^ 64 → places 10 64 v ≡ decimal_width v
unfolding decimal_width
decimal-width-is v h = places-enough 10 64 20 v (omega arith) (omega arith) (omega arith) (omega arith) (omega arith)

pub decimal-width-most : (v : ℕ) → decimal_width v ≤ 20
unfolding decimal_width
decimal-width-most v = places-most 10 20 v

pub hex-width-is : (v : ℕ) → v < 2 ^ 64 → places 16 64 v ≡ hex_width v
unfolding hex_width
hex-width-is v h = places-enough 16 64 16 v (omega arith) (omega arith) (omega arith) (omega arith) (omega arith)

pub hex-width-most : (v : ℕ) → hex_width v ≤ 16
unfolding hex_width
hex-width-most v = places-most 16 16 v

-- ---- the low digits, each by its letter

module _ (base : ℕ) (letter : ℕ → ℕ) where
  pub length-letters : (n v : ℕ) → length (map letter (digits base n v)) ≡ n
  length-letters n v = length-map (digits base n v) letter ∙ length_digits base n v

  pub letters-snoc : (n v : ℕ) → map letter (digits base (suc n) v) ≡ map letter (digits base n (v / base)) ++ (letter (v % base) ∷ [])
  unfolding digits
  letters-snoc n v = map-append letter (digits base n (v / base)) (v % base ∷ [])

  letters-next : (k v : ℕ) (s : List ℕ) → 0 < k → k ≤ length s
      → map letter (digits base (k - 1) (v / base)) ++ drop (k - 1) (set s (k - 1) (letter (v % base))) ≡ map letter (digits base k v) ++ drop k s
  letters-next zero v s h l = absurd (not-suc-le-zero h)
  letters-next (suc k) v s h l =
      let e : suc k - 1 ≡ k = omega arith in
      rw (e, letters-snoc, append_assoc, drop-set-here)

  letters-none : (v : ℕ) (s : List ℕ) → map letter (digits base 0 v) ++ s ≡ s
  unfolding digits
  letters-none v s = refl

-- a loop that writes them: what is still to be written, and then what is written, are the number's digits
pub record Filling (base : ℕ) (letter : ℕ → ℕ) (v : ℕ) (part₀ part : List ℕ) (rest k : ℕ) : Type 0 where
  pub within : k ≤ length part₀
  pub long : length part ≡ length part₀
  pub is : map letter (digits base k rest) ++ drop k part ≡ map letter (digits base (length part₀) v)

module _ (base : ℕ) (letter : ℕ → ℕ) (v : ℕ) where
  pub fill_start : (part : List ℕ) → Filling base letter v part part v (length part)
  fill_start part = record { within = le_refl (length part); long = refl; is = rw (drop-length, append-nil) }

  pub fill-next : (part₀ part : List ℕ) (rest k byte : ℕ) → Filling base letter v part₀ part rest k → 0 < k → byte ≡ letter (rest % base)
      → Filling base letter v part₀ (set part (k - 1) byte) (rest / base) (k - 1)
  fill-next part₀ part rest k byte f h e =
      let within : k ≤ length part₀ = f.within in
      let long : length part ≡ length part₀ = f.long in
      record {
        within = omega arith;
        long = length-set part (k - 1) byte ∙ f.long;
        is = rw e (letters-next base letter k rest part h (omega arith) ∙ f.is);
      }

  pub fill_end : (part₀ part : List ℕ) (rest k : ℕ) → Filling base letter v part₀ part rest k → k ≡ 0 → part ≡ map letter (digits base (length part₀) v)
  fill_end part₀ part rest k f e = sym (letters-none base letter rest part) ∙ rw e at f.is

-- acc stands at the front; the part `&mut out[n..n + k]` after it was filled with as many elements and given back
pub filled-after :
    (f : ℕ → List ℕ) → ((m : ℕ) → length (f m) ≡ m) → (acc old mid part : List ℕ) (n k : ℕ) → length acc ≡ n → n + k ≤ length old
    → mid ≡ front acc old → part ≡ f (length (mid_of n k mid)) → put_mid n k mid part ≡ front (acc ++ f k) old
unfolding front
filled-after f long acc old mid part n k e h o p =
    let is : mid ≡ acc ++ drop n old = o ∙ ap (λ (m : ℕ). acc ++ drop m old) e in
    let first : take n mid ≡ acc = rw is (take_at acc (drop n old) n e) in
    let rest : drop n mid ≡ drop n old = rw is (drop_at acc (drop n old) n e) in
    let same : length (mid_of n k mid) ≡ k = rw rest (length-take-le k (drop n old) (rw length-drop (omega arith))) in
    let q : part ≡ f k = p ∙ ap f same in
    rw (q, first, rest, length-append, long k, e, append_assoc, drop-drop)

-- ---- decimal and hex

-- a decimal digit has the letter that it has in hex
letter-decimal : (d : ℕ) → d < 10 → hex_letter d ≡ decimal_letter d
unfolding hex_letter
letter-decimal d h = rw (lt-ltb d 10 h) (omega arith)

pub digits-decimal : (n v : ℕ) → map hex_letter (digits 10 n v) ≡ decimal_digits n v
unfolding decimal_digits digits
digits-decimal zero v = refl
digits-decimal (suc n) v =
    letters-snoc 10 hex_letter n v ∙ rw (letter-decimal (v % 10) (omega arith), digits-decimal n (v / 10)) (sym (letters-snoc 10 decimal_letter n v))

pub length-decimal_digits : (n v : ℕ) → length (decimal_digits n v) ≡ n
unfolding decimal_digits
length-decimal_digits n v = length-letters 10 decimal_letter n v

pub length-decimal_text : (v : ℕ) → length (decimal_text v) ≡ decimal_width v
unfolding decimal_text
length-decimal_text v = length-decimal_digits (decimal_width v) v

pub length-hex_digits : (n v : ℕ) → length (hex_digits n v) ≡ n
unfolding hex_digits
length-hex_digits n v = length-letters 16 hex_letter n v
