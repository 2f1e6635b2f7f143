-- Writing: what a writer promises, equal bytes at the end, and a run's text. Assumes nothing.
use Prim.Native.Nat.{ℕ, suc, ◌+◌, ◌*◌, ◌-◌, ◌≤◌, ◌<◌, zero-le}
use mathlib.Core.Path.{◌≡◌, refl, sym, ap, ◌∙◌, subst}
use mathlib.Core.Logic.{⊎_elim}
use mathlib.Core.List.{List, [], ◌∷◌, ◌++◌, reverse, reverse-cons, append_assoc}
use native.Mathlib.Nat.{not-suc-le-zero}
use native.Mathlib.Numerals.{add-one}
use native.Mathlib.Omega.{arith}
use lib.ListN.{length, take, drop, get_or, set, length-append, length-set, length-reverse, get_or-append, drop_of_length-le}
use lib.Seq.{drop-cons, get_or_at, set_at}
use lib.Dec.{eqb}
use Rattle.std.specs.List.{take_while}
use Rattle.std.proofs.lemmas.List.Sums.{take_while-cons}
use mathlib.Core.Bool.{Bool, true, false, cond}
use borrow.Author.Tests.{le-leb, lt-leb, eq-eqb, ne_eqb}
use borrow.Rule.Slice.PartMut.{mid_of, put_mid, same_len_mid}
use Rattle.wire.specs.Front.{front, Put}
use Rattle.wire.proofs.FrontLaws.{front-none, lent-front}
use Rattle.wire.proofs.ListLaws.{lt-or-le}
use Rattle.script.specs.Scan.{dash}
use Rattle.script_writing.specs.Decimal.{decimal_width}
use Rattle.script_writing.specs.Hex.{hex_text}
use Rattle.script_writing.specs.Shown.{fitted, Written, equal_front, last_byte, trailing_run, run_text, joined_text, after_hex, shown_text}
use Rattle.script_writing.proofs.DigitLaws.{length-decimal_text}
use Rattle.script_writing.proofs.HexLaws.{length-hex_pair, length-hex_text}

-- ---- what a writer promises

pub written : (t : List ℕ) (r : ℕ) (old new : List ℕ) → length t ≤ length old → r ≡ length t → new ≡ front t old → Written t r old new
unfolding fitted
written t r old new h c o =
    record {
      put = record { count = rw (le-leb (length t) (length old) h) c; output = rw (le-leb (length t) (length old) h) o };
      within = omega arith;
    }

pub not_written : (t old : List ℕ) → length old < length t → Written t 0 old old
unfolding fitted
not_written t old h =
    record {
      put = record { count = rw (lt-leb (length t) (length old) h); output = rw (lt-leb (length t) (length old) h) (front-none old) };
      within = zero-le;
    }

-- where the text fits, it was written
pub was-written : (t : List ℕ) (r : ℕ) (old new : List ℕ) → Written t r old new → length t ≤ length old → Put t r old new
unfolding fitted
was-written t r old new w h = subst (λ (x : List ℕ). Put x r old new) (rw (le-leb (length t) (length old) h)) w.put

pub written_as : (t u : List ℕ) (r : ℕ) (old new : List ℕ) → t ≡ u → Written t r old new → Written u r old new
written_as t u r old new e w = subst (λ (x : List ℕ). Written x r old new) e w

-- ---- equal bytes at the end

module _ (b : ℕ) (s : List ℕ) (k : ℕ) where
  pub equal-more : k < length s → get_or s k 0 ≡ b → equal_front b (drop k s) ≡ suc (equal_front b (drop (k + 1) s))
  unfolding equal_front
  equal-more h e = rw (add-one, drop-cons s k 0 h, eq-eqb (get_or s k 0) b e)

  pub equal-stop : k < length s → (get_or s k 0 ≡ b → ⊥) → equal_front b (drop k s) ≡ 0
  unfolding equal_front
  equal-stop h e = rw (drop-cons s k 0 h, ne_eqb (get_or s k 0) b e)

  pub equal-end : length s ≤ k → equal_front b (drop k s) ≡ 0
  unfolding equal_front
  equal-end h = rw (drop_of_length-le s h)

pub reverse-at : (s : List ℕ) (k : ℕ) → k < length s → get_or (reverse s) k 0 ≡ get_or s (length s - 1 - k) 0
reverse-at [] k h = absurd (not-suc-le-zero h)
reverse-at (x ∷ s) k h =
    ap (λ (l : List ℕ). get_or l k 0) (reverse-cons x s)
    ∙ ⊎_elim
    (λ p.
    let e : suc (length s) - 1 - k ≡ suc (length s - 1 - k) = omega arith in
    get_or-append (reverse s) (x ∷ []) 0 k (omega (arith, length-reverse s))
    ∙ reverse-at s k p
    ∙ ap (λ (j : ℕ). get_or (x ∷ s) j 0) (sym e))
    (λ q.
    let e : suc (length s) - 1 - k ≡ 0 = omega arith in
    get_or_at (reverse s) x [] 0 k (omega (arith, length-reverse s))
    ∙ ap (λ (j : ℕ). get_or (x ∷ s) j 0) (sym e))
    (lt-or-le k (length s))

pub run_none : (s : List ℕ) → length s ≡ 0 → 0 ≡ trailing_run s
unfolding trailing_run equal_front
run_none [] h = refl
run_none (b ∷ s) h = absurd (omega arith)

pub run-start : (s : List ℕ) (b : ℕ) → b ≡ get_or s (length s - 1) 0 → 0 + equal_front b (reverse s) ≡ trailing_run s
unfolding trailing_run
run-start s b e = rw e (omega arith)

-- from the end on, k bytes equal the last; the next one does, it does not, or there is none
module _ (s : List ℕ) (b k : ℕ) where
  pub run_more : k < length s → get_or s (length s - 1 - k) 0 ≡ b → equal_front b (drop k (reverse s)) ≡ suc (equal_front b (drop (k + 1) (reverse s)))
  run_more h e = equal-more b (reverse s) k (omega (arith, length-reverse s)) (reverse-at s k h ∙ e)

  pub run-stop : k < length s → (get_or s (length s - 1 - k) 0 ≡ b → ⊥) → equal_front b (drop k (reverse s)) ≡ 0
  run-stop h e = equal-stop b (reverse s) k (omega (arith, length-reverse s)) (λ q. e (sym (reverse-at s k h) ∙ q))

  pub run_end : length s ≤ k → equal_front b (drop k (reverse s)) ≡ 0
  run_end h = equal-end b (reverse s) k (omega (arith, length-reverse s))

-- the elements at the front that equal b, counted by the library
pub equal_count : (b : ℕ) (s : List ℕ) → length (take_while (λ x. eqb x b) s) ≡ equal_front b s
unfolding equal_front
equal_count b [] = refl
equal_count b (x ∷ s) = ap (λ (t : List ℕ). length t) (take_while-cons (λ y. eqb y b) x s) ∙ go (eqb x b) (equal_count b s)
  where
    go : (t : Bool) → length (take_while (λ y. eqb y b) s) ≡ equal_front b s → length (cond t (x ∷ take_while (λ y. eqb y b) s) []) ≡ cond t (suc (equal_front b s)) 0
    go true h = ap (λ (n : ℕ). suc n) h
    go false h = refl

pub run_is : (s : List ℕ) (b : ℕ) → b ≡ get_or s (length s - 1) 0 → length (take_while (λ x. eqb x b) (reverse s)) ≡ trailing_run s
unfolding trailing_run
run_is s b e = equal_count b (reverse s) ∙ ap (λ (x : ℕ). equal_front x (reverse s)) e

pub equal-le : (b : ℕ) (s : List ℕ) → equal_front b s ≤ length s
unfolding equal_front
equal-le b [] = omega arith
equal-le b (x ∷ s) = go (eqb x b) (equal-le b s)
  where
    go : (t : Bool) → equal_front b s ≤ length s → cond t (suc (equal_front b s)) 0 ≤ suc (length s)
    go true h = omega arith
    go false h = omega arith

pub run-within : (s : List ℕ) → trailing_run s ≤ length s
unfolding trailing_run
run-within s = omega (arith, equal-le (last_byte s) (reverse s), length-reverse s)

-- ---- an element stored after what stands; then the part `&mut o[n + 1..]` after it was lent, written over and given back

pub stored-after : (a old o : List ℕ) (b n : ℕ) → length a ≡ n → n < length old → o ≡ front a old → set o n b ≡ front (a ++ (b ∷ [])) old
unfolding front
stored-after a old o b n e h f =
    let rest : drop (length a) old ≡ get_or old n 0 ∷ drop (suc n) old = rw e (drop-cons old n 0 h) in
    let long : length (a ++ (b ∷ [])) ≡ suc n = rw (length-append, e) (omega arith) in
    rw (f, rest, set_at a (get_or old n 0) (drop (suc n) old) b n e, long, append_assoc)

module _ (o q : List ℕ) (b n : ℕ) where
  abbrev after : ℕ
  after = length (set o n b) - (n + 1)

  pub stored-lent :
      (a d old : List ℕ) → length a ≡ n → n < length old → o ≡ front a old → q ≡ front d (mid_of (n + 1) after (set o n b))
      → put_mid (n + 1) after (set o n b) q ≡ front (a ++ (b ∷ d)) old
  stored-lent a d old e h f i =
      lent-front (a ++ (b ∷ [])) d old (set o n b) q (n + 1) after (rw (length-append, e)) (stored-after a old o b n e h f) refl i
      ∙ ap (λ (t : List ℕ). front t old) (append_assoc a (b ∷ []) d)

  pub stored-lent-same : length q ≡ length (mid_of (n + 1) after (set o n b)) → length (put_mid (n + 1) after (set o n b) q) ≡ length o
  stored-lent-same e = same_len_mid (n + 1) after (set o n b) q e ∙ length-set o n b

-- ---- a run's text

pub length-run_text : (n b : ℕ) → length (run_text n b) ≡ decimal_width n + 3
unfolding run_text
length-run_text n b = rw (length-append, length-decimal_text) (omega (arith, length-hex_pair b))

pub length-joined_text : (head run : List ℕ) → length (joined_text head run) ≡ 2 * length head + 1 + length run
unfolding joined_text
length-joined_text head run = rw (length-append, length-hex_text) (omega arith)

pub length-joined-run : (head : List ℕ) (n b w : ℕ) → w ≡ decimal_width n → length (joined_text head (run_text n b)) ≡ 2 * length head + (w + 4)
length-joined-run head n b w e = omega (arith, length-joined_text head (run_text n b), length-run_text n b)

-- ---- bytes as an answer shows them

after_hex-some : (head run : List ℕ) → 0 < length head → after_hex head run ≡ joined_text head run
unfolding after_hex
after_hex-some [] run h = absurd (not-suc-le-zero h)
after_hex-some (b ∷ s) run h = refl

module _ (s : List ℕ) where
  pub shown-none : length s ≡ 0 → dash ∷ [] ≡ shown_text s
  unfolding shown_text
  shown-none h = rw (eq-eqb (length s) 0 h)

  module _ (k : ℕ) (h : length s ≡ 0 → ⊥) (e : k ≡ trailing_run s) where
    pub shown-hex : k < 8 → hex_text s ≡ shown_text s
    unfolding shown_text
    shown-hex l = rw (ne_eqb (length s) 0 h, lt-leb 8 (trailing_run s) (rw e at l))

    module _ (l : 8 ≤ k) where
      run-shown : after_hex (take (length s - k) s) (run_text k (last_byte s)) ≡ shown_text s
      unfolding shown_text
      run-shown = rw (e, ne_eqb (length s) 0 h, le-leb 8 (trailing_run s) (rw e at l))

      pub shown-run : length s - k ≡ 0 → run_text k (last_byte s) ≡ shown_text s
      unfolding after_hex
      shown-run z = rw z at run-shown

      pub shown-joined : 0 < length (take (length s - k) s) → joined_text (take (length s - k) s) (run_text k (last_byte s)) ≡ shown_text s
      shown-joined n = sym (after_hex-some (take (length s - k) s) (run_text k (last_byte s)) n) ∙ run-shown
