-- Pieces: where they end, what each kind stands for, and the answers. Assumes nothing.
use Rattle.std.specs.Prelude.{Some, None, Result, Ok, Err}
use Rattle.std.proofs.Common.{◌≡◌, ℕ, suc, ◌+◌, ◌-◌, ◌%◌, ◌<◌, ◌≤◌, min, true, false, cond, ◌&&◌, eqb, ltb, List, [], ◌∷◌, length, get_or, take, drop, replicate, refl, ap, subst, zero-le, le_refl, add-one, arith, length-drop, drop_of_length-le, drop-cons, le-ltb, lt-ltb, eq-eqb, ne_eqb, le-leb}
use borrow.Author.Tests.{lt-leb}
use Rattle.wire.specs.Front.{front}
use Rattle.script.specs.Scan.{all, is_only, begins, distance, quote, star, plus, dash, at, underscore, find_of, Found}
use Rattle.script.specs.Decimal.{number_of}
use Rattle.script.specs.Hex.{is_hex, hex_byte, pairs}
use Rattle.script.specs.Piece.{piece_length, piece_end, Meaning, bytes, file, malformed, is_plain, inner, text_of, hex_of, times_of, run_of, piece_of, answer_of, output_of, Read}
use Rattle.script.specs.declared.reading.NoPiece.{NoPiece}
use Rattle.script.specs.declared.reading.NoPiece.TheVariants as no
use Rattle.script.specs.declared.reading.Piece.{Piece}
use Rattle.script.specs.declared.reading.Piece.TheVariants as piece
use Rattle.script.proofs.ScanLaws.{and-not-right, among_in, among_below, among-above, distance-le, only_first, only-other, begins_first, begins-not}

-- ---- where a piece ends

-- the piece from place i on, by its first byte
module _ (s : List ℕ) (i : ℕ) where
  pub end-past : length s ≤ i → Found (piece_end s i) s i i
  unfolding piece_end piece_length
  end-past h = record { is = rw (drop_of_length-le s h) (omega arith); least = le_refl i; most = omega arith }

  pub end-plain : i < length s → (get_or s i 0 ≡ quote → ⊥) → find_of s i plus ≡ piece_end s i
  unfolding piece_end piece_length find_of
  end-plain h e = rw (drop-cons s i 0 h, ne_eqb (get_or s i 0) quote e)

  -- the text's length, from the quote that opens it
  text-length : i < length s → get_or s i 0 ≡ quote → piece_length (drop i s) ≡ suc (min (suc (distance quote (drop (i + 1) s))) (length s - (i + 1)))
  unfolding piece_length
  text-length h e = rw (drop-cons s i 0 h, eq-eqb (get_or s i 0) quote e, add-one, length-drop)

  pub end-closed : (k : ℕ) → i < length s → get_or s i 0 ≡ quote → k ≡ find_of s (i + 1) quote → k < length s → k + 1 ≡ piece_end s i
  unfolding piece_end find_of
  end-closed k h e f l = omega (arith, text-length h e)

  pub end-open : i < length s → get_or s i 0 ≡ quote → length s ≤ find_of s (i + 1) quote → length s ≡ piece_end s i
  unfolding piece_end find_of
  end-open h e l = omega (arith, text-length h e, distance-le quote (drop (i + 1) s), length-drop (i + 1) s)

pub find_first : (s : List ℕ) (b : ℕ) → find_of s 0 b ≡ distance b s
unfolding find_of
find_first s b = omega arith

-- ---- the answers

pub read-bytes : (s : List ℕ) (n : ℕ) (old new : List ℕ) → length s ≤ length old → n ≡ length s → new ≡ front s old → Read (bytes s) (Ok (piece.Bytes n)) old new
unfolding answer_of output_of
read-bytes s n old new h c o = record { result = rw (le-leb (length s) (length old) h, c); output = rw (le-leb (length s) (length old) h) o; within = omega arith }

pub read-too-long : (s old : List ℕ) → length old < length s → Read (bytes s) (Err no.TooLong) old old
unfolding answer_of output_of
read-too-long s old h = record { result = rw (lt-leb (length s) (length old) h); output = rw (lt-leb (length s) (length old) h); within = zero-le }

read_none : (old : List ℕ) → Read malformed (Err no.Malformed) old old
unfolding answer_of output_of
read_none old = record { result = refl; output = refl; within = zero-le }

pub read_as : (m l : Meaning) (r : Result Piece NoPiece) (old new : List ℕ) → m ≡ l → Read m r old new → Read l r old new
read_as m l r old new e f = subst (λ (x : Meaning). Read x r old new) e f

pub read-malformed : (m : Meaning) (old : List ℕ) → malformed ≡ m → Read m (Err no.Malformed) old old
read-malformed m old e = read_as malformed m (Err no.Malformed) old old e (read_none old)

pub read-file : (m : Meaning) (old : List ℕ) → file ≡ m → Read m (Ok piece.File) old old
unfolding answer_of output_of
read-file m old e = read_as file m (Ok piece.File) old old e (record { result = refl; output = refl; within = zero-le })

-- ---- text

pub plain-low : (b : ℕ) → b < 33 → is_plain b ≡ false
unfolding is_plain
plain-low b h = rw (among_below 33 126 b h)

pub plain-high : (b : ℕ) → 126 < b → is_plain b ≡ false
unfolding is_plain
plain-high b h = rw (among-above 33 126 b h)

pub plain-quote : (b : ℕ) → b ≡ quote → is_plain b ≡ false
unfolding is_plain
plain-quote b e = rw e

pub plain-is : (b : ℕ) → 33 ≤ b → b ≤ 126 → (b ≡ quote → ⊥) → is_plain b ≡ true
unfolding is_plain
plain-is b h k e = rw (among_in 33 126 b h k, ne_eqb b quote e)

module _ (s : List ℕ) where
  pub text-short : length s < 2 → malformed ≡ text_of s
  unfolding text_of
  text-short h = rw (lt-leb 2 (length s) h)

  pub text-open : 2 ≤ length s → (get_or s (length s - 1) 0 ≡ quote → ⊥) → malformed ≡ text_of s
  unfolding text_of
  text-open h e = rw (le-leb 2 (length s) h, ne_eqb (get_or s (length s - 1) 0) quote e)

  pub text-odd : 2 ≤ length s → get_or s (length s - 1) 0 ≡ quote → all is_plain (inner s) ≡ false → malformed ≡ text_of s
  unfolding text_of
  text-odd h e f = rw (le-leb 2 (length s) h, eq-eqb (get_or s (length s - 1) 0) quote e, f)

  pub text-is : 2 ≤ length s → get_or s (length s - 1) 0 ≡ quote → all is_plain (inner s) ≡ true → bytes (inner s) ≡ text_of s
  unfolding text_of
  text-is h e f = rw (le-leb 2 (length s) h, eq-eqb (get_or s (length s - 1) 0) quote e, f)

  -- what stands between the quotes, as the part `&s[1..n - 1]`
  pub inner-part : take (length s - 1 - 1) (drop 1 s) ≡ inner s
  unfolding inner
  inner-part = let e : length s - 1 - 1 ≡ length s - 2 = omega arith in ap (λ (n : ℕ). take n (drop 1 s)) e

  -- ---- hex

  pub hex-none : length s ≡ 0 → malformed ≡ hex_of s
  unfolding hex_of
  hex-none h = rw h

  pub hex-odd : (length s % 2 ≡ 0 → ⊥) → malformed ≡ hex_of s
  unfolding hex_of
  hex-odd h = rw (ne_eqb (length s % 2) 0 h, and-not-right (ltb 0 (length s)) false refl)

  pub hex-other : all is_hex s ≡ false → malformed ≡ hex_of s
  unfolding hex_of
  hex-other e = rw (e, and-not-right (ltb 0 (length s) && eqb (length s % 2) 0) false refl)

  pub hex-bytes : 0 < length s → length s % 2 ≡ 0 → all is_hex s ≡ true → bytes (pairs s) ≡ hex_of s
  unfolding hex_of
  hex-bytes h e f = rw (lt-ltb 0 (length s) h, eq-eqb (length s % 2) 0 e, f)

-- ---- a run

module _ (n : ℕ) (d : List ℕ) where
  pub times-length : (length d ≡ 2 → ⊥) → malformed ≡ times_of n d
  unfolding times_of
  times-length h = rw (ne_eqb (length d) 2 h)

  pub times-other : all is_hex d ≡ false → malformed ≡ times_of n d
  unfolding times_of
  times-other e = rw (e, and-not-right (eqb (length d) 2) false refl)

  pub times-are : length d ≡ 2 → all is_hex d ≡ true → bytes (replicate n (hex_byte (get_or d 0 0) (get_or d 1 0))) ≡ times_of n d
  unfolding times_of
  times-are h e = rw (eq-eqb (length d) 2 h, e)

pub run_is : (s : List ℕ) (k n : ℕ) → Some n ≡ number_of (take k s) → times_of n (drop (k + 1) s) ≡ run_of s k
unfolding run_of
run_is s k n e = rw (← e)

pub run-other : (s : List ℕ) (k : ℕ) → None ≡ number_of (take k s) → malformed ≡ run_of s k
unfolding run_of
run-other s k e = rw (← e)

-- ---- the table of pieces

pub piece-none : (s last : List ℕ) → length s ≡ 0 → malformed ≡ piece_of s last
unfolding piece_of is_only begins distance hex_of
piece-none [] last h = refl
piece-none (b ∷ s) last h = absurd (omega arith)

module _ (s last : List ℕ) where
  pub piece-dash : length s ≡ 1 → get_or s 0 0 ≡ dash → bytes [] ≡ piece_of s last
  unfolding piece_of
  piece-dash h e = rw (only_first dash s h e)

  pub piece-last : length s ≡ 1 → get_or s 0 0 ≡ underscore → bytes last ≡ piece_of s last
  unfolding piece_of
  piece-last h e = rw (only-other dash s (λ k p. omega arith), only_first underscore s h e)

  pub piece-file : 0 < length s → get_or s 0 0 ≡ at → file ≡ piece_of s last
  unfolding piece_of
  piece-file h e = rw (only-other dash s (λ k p. omega arith), only-other underscore s (λ k p. omega arith), begins_first at s h e)

  pub piece-text : 0 < length s → get_or s 0 0 ≡ quote → text_of s ≡ piece_of s last
  unfolding piece_of
  piece-text h e =
      rw (only-other dash s (λ k p. omega arith), only-other underscore s (λ k p. omega arith), begins-not at s (λ k p. omega arith), begins_first quote s h e)

  -- neither of these
  module _ (e : is_only dash s ≡ false) (f : is_only underscore s ≡ false) (p : 0 < length s → get_or s 0 0 ≡ at → ⊥) (q : 0 < length s → get_or s 0 0 ≡ quote → ⊥) where
    other : cond (ltb (distance star s) (length s)) (run_of s (distance star s)) (hex_of s) ≡ piece_of s last
    unfolding piece_of
    other = rw (e, f, begins-not at s p, begins-not quote s q)

    pub piece-run : distance star s < length s → run_of s (distance star s) ≡ piece_of s last
    piece-run l = rw (lt-ltb (distance star s) (length s) l) at other

    pub piece-hex : length s ≤ distance star s → hex_of s ≡ piece_of s last
    piece-hex l = rw (le-ltb (distance star s) (length s) l) at other
