-- Bytes as an answer shows them, read as pieces joined by `+`, are the bytes again. Assumes nothing.
use Prim.Native.Nat.{ℕ, zero, suc, ◌+◌, ◌-◌, ◌/◌, ◌%◌, ◌^◌, ◌≤◌, ◌<◌, min}
use mathlib.Core.Path.{◌≡◌, refl, sym, ap, ap₂, ◌∙◌}
use mathlib.Core.Bool.{Bool, true, false, false≢true, cond}
use mathlib.Core.Logic.{⊎_elim}
use mathlib.Core.List.{List, [], ◌∷◌, ◌++◌, reverse}
use native.Mathlib.Nat.{not-suc-le-zero, le_of_suc-le-suc}
use native.Mathlib.Omega.{arith}
use lib.ListN.{length, take, drop, get_or, replicate, length-append, length-take, length-drop, length-replicate, get_or-replicate, take-append-drop, get_or-append}
use lib.Seq.{take_at, drop-append-add, get_or-append_seam, get_or-take, get_or-drop, ext_get_or}
use lib.Dec.{ltb, eqb}
use borrow.Author.Tests.{lt-ltb, le-ltb, eq-eqb, ne_eqb, eqb-true}
use Rattle.wire.proofs.ListLaws.{lt-or-le}
use Rattle.script.specs.Scan.{all, is_only, begins, distance, quote, star, plus, dash, at, underscore}
use Rattle.script.specs.Decimal.{is_decimal, number_of}
use Rattle.script_writing.specs.Decimal.{decimal_text}
use Rattle.script.specs.Hex.{hex_digit, is_hex}
use Rattle.script_writing.specs.Hex.{hex_pair, hex_text}
use Rattle.script.specs.Piece.{piece_length, Meaning, bytes, file, malformed, is_plain, inner, text_of, times_of, run_of, piece_of}
use Rattle.script_writing.specs.Shown.{equal_front, last_byte, trailing_run, run_text, joined_text, shown_text}
use Rattle.script.proofs.ScanLaws.{all-at, only-not}
use Rattle.script_writing.proofs.DigitLaws.{length-decimal_text}
use Rattle.script_writing.proofs.HexLaws.{Bytes, letter-hex, pair-byte, length-hex_pair, length-hex_text, hex_text-hex}
use Rattle.script.proofs.PieceLaws.{times-are, run_is, piece-run}
use Rattle.script_writing.proofs.ShownLaws.{reverse-at, run-within, length-run_text, shown-none, shown-hex, shown-run, shown-joined}
use Rattle.script_writing.proofs.ReadBack.{distance-past, distance_none, first-not, hex-piece, number-back, text-decimal, width-pos}

abbrev pub after : Meaning → Meaning → Meaning
after (bytes a) (bytes b) = bytes (a ++ b)
after (bytes a) file = malformed
after (bytes a) malformed = malformed
after file m = malformed
after malformed m = malformed

-- the bytes of up to n pieces joined by `+`, none of them a file; what follows a text is a `+` or nothing
unfoldable pub operand_of : ℕ → List ℕ → List ℕ → Meaning
operand_of zero t last = malformed
operand_of (suc n) t last =
    cond (ltb (piece_length t) (length t))
    (cond (eqb (get_or t (piece_length t) 0) plus)
    (after (piece_of (take (piece_length t) t) last) (operand_of n (drop (piece_length t + 1) t) last))
    malformed)
    (piece_of t last)

-- ---- one piece, and two

operand-one : (n : ℕ) (t last : List ℕ) → piece_length t ≡ length t → operand_of (suc n) t last ≡ piece_of t last
unfolding operand_of
operand-one n t last e = rw (le-ltb (piece_length t) (length t) (omega arith))

operand-two : (n : ℕ) (a b last : List ℕ) → piece_length (a ++ (plus ∷ b)) ≡ length a
    → operand_of (suc n) (a ++ (plus ∷ b)) last ≡ after (piece_of a last) (operand_of n b last)
unfolding operand_of
operand-two n a b last e =
    let joined : eqb (get_or (a ++ (plus ∷ b)) (length a) 0) plus ≡ true = eq-eqb _ plus (get_or-append_seam a plus b 0) in
    rw (e, length-append, lt-ltb (length a) (length a + suc (length b)) (omega arith), joined, take_at a (plus ∷ b) (length a) refl, drop-append-add a (plus ∷ b) 1)

-- a piece that is no text ends before the first plus
plain-length : (t : List ℕ) → 0 < length t → (get_or t 0 0 ≡ quote → ⊥) → piece_length t ≡ distance plus t
unfolding piece_length
plain-length [] h e = absurd (not-suc-le-zero h)
plain-length (b ∷ t) h e = rw (ne_eqb b quote e)

plus-plus : (t : List ℕ) → distance plus (plus ∷ t) ≡ 0
unfolding distance
plus-plus t = refl

-- ---- hex

hex-length : (s : List ℕ) → Bytes s → 0 < length s → piece_length (hex_text s) ≡ length (hex_text s)
unfolding is_hex hex_digit
hex-length s f h =
    let t = hex_text s in
    let q : all is_hex t ≡ true = hex_text-hex s f in
    let long : 0 < length t = omega (arith, length-hex_text s) in
    plain-length t long (first-not quote t refl q long) ∙ distance_none plus t refl q

-- hex, a plus and more
joined_back : (head run last : List ℕ) → Bytes head → 0 < length head → operand_of 2 (joined_text head run) last ≡ after (piece_of (hex_text head) last) (operand_of 1 run last)
unfolding joined_text is_hex hex_digit
joined_back head run last f h =
    let t = hex_text head in
    let q : all is_hex t ≡ true = hex_text-hex head f in
    let long : 0 < length t = omega (arith, length-hex_text head) in
    let same : get_or (t ++ (plus ∷ run)) 0 0 ≡ get_or t 0 0 = get_or-append t (plus ∷ run) 0 0 long in
    operand-two 1 t run last
    (plain-length (t ++ (plus ∷ run)) (omega (arith, length-append t (plus ∷ run))) (λ e. first-not quote t refl q long (sym same ∙ e))
    ∙ distance-past is_hex plus t (plus ∷ run) refl q
    ∙ omega (arith, plus-plus run))

-- ---- a run

pair-hex : (b : ℕ) → b < 256 → all is_hex (hex_pair b) ≡ true
unfolding hex_pair
pair-hex b h = rw (letter-hex (b / 16) (omega arith), letter-hex (b % 16) (omega arith))

pair-times : (n b : ℕ) → b < 256 → times_of n (hex_pair b) ≡ bytes (replicate n b)
unfolding hex_pair
pair-times n b h = sym (times-are n (hex_pair b) refl (pair-hex b h)) ∙ ap (λ (x : ℕ). bytes (replicate n x)) (pair-byte b h)

star-plus : (b : ℕ) → b < 256 → distance plus (star ∷ hex_pair b) ≡ 3
unfolding distance is_hex hex_digit
star-plus b h = ap suc (distance_none plus (hex_pair b) refl (pair-hex b h) ∙ length-hex_pair b)

star-star : (t : List ℕ) → distance star (star ∷ t) ≡ 0
unfolding distance
star-star t = refl

module _ (n b : ℕ) (h : b < 256) where
  -- the first byte is a decimal digit
  run-first : (c : ℕ) → is_decimal c ≡ false → get_or (run_text n b) 0 0 ≡ c → ⊥
  unfolding run_text
  run-first c p e =
      let some : 0 < length (decimal_text n) = omega (arith, length-decimal_text n, width-pos n) in
      let same : get_or (decimal_text n ++ (star ∷ hex_pair b)) 0 0 ≡ get_or (decimal_text n) 0 0 = get_or-append (decimal_text n) (star ∷ hex_pair b) 0 0 some in
      false≢true (sym p ∙ ap is_decimal (sym (sym same ∙ e)) ∙ all-at is_decimal (decimal_text n) 0 some (text-decimal n))

  run_length : piece_length (run_text n b) ≡ length (run_text n b)
  unfolding run_text is_decimal
  run_length =
      plain-length (run_text n b) (omega (arith, length-run_text n b)) (run-first quote refl)
      ∙ distance-past is_decimal plus (decimal_text n) (star ∷ hex_pair b) refl (text-decimal n)
      ∙ omega (arith, star-plus b h, length-run_text n b, length-decimal_text n)

  run-star : distance star (run_text n b) ≡ length (decimal_text n)
  unfolding run_text is_decimal
  run-star = distance-past is_decimal star (decimal_text n) (star ∷ hex_pair b) refl (text-decimal n) ∙ omega (arith, star-star (hex_pair b))

  run-parts : n < 2 ^ 64 → run_of (run_text n b) (length (decimal_text n)) ≡ bytes (replicate n b)
  unfolding run_text
  run-parts l =
      let t = decimal_text n in
      let r = star ∷ hex_pair b in
      sym (run_is (t ++ r) (length t) n (sym (ap number_of (take_at t r (length t) refl) ∙ number-back n l)))
      ∙ ap (λ (x : List ℕ). times_of n x) (drop-append-add t r 1)
      ∙ pair-times n b h

  pub run-piece : (last : List ℕ) → n < 2 ^ 64 → piece_of (run_text n b) last ≡ bytes (replicate n b)
  unfolding is_decimal
  run-piece last l =
      let t = run_text n b in
      let long : 3 ≤ length t = omega (arith, length-run_text n b) in
      sym
      (piece-run t last (only-not dash t (λ e. omega arith)) (only-not underscore t (λ e. omega arith)) (λ l. run-first at refl) (λ l. run-first quote refl)
      (omega (arith, run-star, length-run_text n b, length-decimal_text n)))
      ∙ ap (λ (k : ℕ). run_of t k) run-star
      ∙ run-parts l

-- ---- the run at the end

equal-at : (b : ℕ) (r : List ℕ) (j : ℕ) → j < equal_front b r → get_or r j 0 ≡ b
unfolding equal_front
equal-at b [] j h = absurd (not-suc-le-zero h)
equal-at b (x ∷ r) j h = go (λ i k. equal-at b r i k) (eqb x b) refl j h
  where
    go : ((i : ℕ) → i < equal_front b r → get_or r i 0 ≡ b) → (t : Bool) → eqb x b ≡ t → (j : ℕ) → j < cond t (suc (equal_front b r)) 0 → get_or (x ∷ r) j 0 ≡ b
    go ih true e zero k = eqb-true x b e
    go ih true e (suc j) k = ih j (le_of_suc-le-suc k)
    go ih false e j k = absurd (not-suc-le-zero k)

module _ (s : List ℕ) where
  run_at : (i : ℕ) → i < trailing_run s → get_or s (length s - trailing_run s + i) 0 ≡ last_byte s
  unfolding trailing_run
  run_at i h =
      let k = trailing_run s in
      let w : k ≤ length s = run-within s in
      let j : ℕ = k - 1 - i in
      let e : length s - 1 - (k - 1 - i) ≡ length s - k + i = omega arith in
      ap (λ (m : ℕ). get_or s m 0) (sym e) ∙ sym (reverse-at s j (omega arith)) ∙ equal-at (last_byte s) (reverse s) j (omega arith)

  run-is-last : drop (length s - trailing_run s) s ≡ replicate (trailing_run s) (last_byte s)
  run-is-last =
      let k = trailing_run s in
      let w : k ≤ length s = run-within s in
      let long : length (drop (length s - k) s) ≡ k = length-drop (length s - k) s ∙ omega arith in
      ext_get_or 0 (drop (length s - k) s) (replicate k (last_byte s)) (long ∙ sym (length-replicate k (last_byte s)))
      (λ i h. get_or-drop (length s - k) s i 0 ∙ run_at i (omega (arith, h, long)) ∙ sym (get_or-replicate k i (last_byte s) 0 (omega (arith, h, long))))

  pub run-whole : take (length s - trailing_run s) s ++ replicate (trailing_run s) (last_byte s) ≡ s
  run-whole = ap (λ (l : List ℕ). take (length s - trailing_run s) s ++ l) (sym run-is-last) ∙ take-append-drop (length s - trailing_run s) s

-- ---- the whole

dash-back : (s last : List ℕ) → length s ≡ 0 → operand_of 2 (dash ∷ []) last ≡ bytes s
unfolding operand_of piece_length distance piece_of is_only
dash-back [] last h = refl
dash-back (b ∷ s) last h = absurd (omega arith)

taken-bytes : (s : List ℕ) (m : ℕ) → Bytes s → Bytes (take m s)
taken-bytes s m f i h =
    let long : i < min m (length s) = rw length-take at h in
    rw (get_or-take m s i 0 (omega arith)) (f i (omega arith))

module _ (s last : List ℕ) (f : Bytes s) (few : length s < 2 ^ 64) where
  none-case : length s ≡ 0 → operand_of 2 (shown_text s) last ≡ bytes s
  none-case h = ap (λ (t : List ℕ). operand_of 2 t last) (sym (shown-none s h)) ∙ dash-back s last h

  module _ (h : 0 < length s) where
    hex-case : trailing_run s < 8 → operand_of 2 (shown_text s) last ≡ bytes s
    hex-case l =
        ap (λ (t : List ℕ). operand_of 2 t last) (sym (shown-hex s (trailing_run s) (λ e. omega arith) refl l))
        ∙ operand-one 1 (hex_text s) last (hex-length s f h)
        ∙ hex-piece s last f h

    -- the run's piece stands for the run's bytes
    run-bytes : (n : ℕ) → operand_of (suc n) (run_text (trailing_run s) (last_byte s)) last ≡ bytes (replicate (trailing_run s) (last_byte s))
    run-bytes n =
        let small : last_byte s < 256 = f (length s - 1) (omega arith) in
        operand-one n (run_text (trailing_run s) (last_byte s)) last (run_length (trailing_run s) (last_byte s) small)
        ∙ run-piece (trailing_run s) (last_byte s) small last (omega (arith, run-within s))

    run-case : 8 ≤ trailing_run s → length s - trailing_run s ≡ 0 → operand_of 2 (shown_text s) last ≡ bytes s
    run-case l z =
        ap (λ (t : List ℕ). operand_of 2 t last) (sym (shown-run s (trailing_run s) (λ e. omega arith) refl l z))
        ∙ run-bytes 1
        ∙ ap bytes (rw z at (run-whole s))

    joined-case : 8 ≤ trailing_run s → 0 < length s - trailing_run s → operand_of 2 (shown_text s) last ≡ bytes s
    joined-case l z =
        let head = take (length s - trailing_run s) s in
        let run = run_text (trailing_run s) (last_byte s) in
        let some : 0 < length head = omega (arith, length-take (length s - trailing_run s) s) in
        let b : Bytes head = taken-bytes s (length s - trailing_run s) f in
        ap (λ (t : List ℕ). operand_of 2 t last) (sym (shown-joined s (trailing_run s) (λ e. omega arith) refl l some))
        ∙ joined_back head run last b some
        ∙ ap₂ after (hex-piece head last b some) (run-bytes 0)
        ∙ ap bytes (run-whole s)

  -- what an answer shows is read as the bytes
  pub shown-back : operand_of 2 (shown_text s) last ≡ bytes s
  shown-back =
      ⊎_elim
      (λ h.
      ⊎_elim
      (λ l. hex-case h l)
      (λ l. ⊎_elim (λ z. joined-case h l z) (λ z. run-case h l (omega arith)) (lt-or-le 0 (length s - trailing_run s)))
      (lt-or-le (trailing_run s) 8))
      (λ z. none-case (omega arith))
      (lt-or-le 0 (length s))

-- `"a"b` is no operand, `"a"+"b"` is
pub text-then-plus : (operand_of 2 (34 ∷ 97 ∷ 34 ∷ 98 ∷ []) [] ≡ malformed) × (operand_of 2 (34 ∷ 97 ∷ 34 ∷ 43 ∷ 34 ∷ 98 ∷ 34 ∷ []) [] ≡ bytes (97 ∷ 98 ∷ []))
unfolding operand_of piece_length piece_of is_only begins distance text_of inner is_plain
text-then-plus = (refl, refl)
