-- A whole body, by what the code asks of it. Assumes nothing.
use Prim.Native.Nat.{ℕ, zero-le, ◌+◌, ◌-◌, ◌*◌, ◌%◌, ◌≤◌, ◌<◌}
use mathlib.Core.Path.{◌≡◌, refl, sym, ap, ◌∙◌}
use mathlib.Core.Bool.{Bool, true, false, cond, ◌&&◌}
use mathlib.Core.Logic.{⊎_elim}
use mathlib.Core.List.{List, [], ◌∷◌, map}
use mathlib.Core.Option.{Option, none, some}
use native.Mathlib.Omega.{arith}
use borrow.Author.Tests.{le-leb, lt-leb, eq-eqb, ne_eqb, eqb-true, leb-true}
use lib.ListN.{length, take, drop, get_or, length-drop, length-map}
use lib.Dec.{eqb, leb}
use Rattle.wire.specs.Numbers.{number}
use Rattle.wire.proofs.ListLaws.{lt-or-le}
use Rattle.wire.proofs.SumLaws.{and_left, and_right}
use Rattle.fingerprint_bodies.specs.Entries.{Entry, bind, whole, at_least, mapped, all_entries, shown}
use Rattle.fingerprint_bodies.specs.Forms.{words_in, even_words, word_list, one_entry}
use Rattle.fingerprint_bodies.specs.Code.{within, count_asked, is_whole}
use Rattle.fingerprint_bodies.proofs.PieceLaws.{number-there, number_cut, whole_is, whole-not}
use Rattle.fingerprint_bodies.proofs.EntryLaws.{plus, plus_none, plus-some, all_shown}
use Rattle.varint.proofs.ByteLaws.{number-one}

-- n is the count that stands in front
pub whole-asked : (width : ℕ) (bs : List ℕ) (n : ℕ) → n ≡ number 256 (take width bs) → width ≤ length bs → eqb n (length bs - width) ≡ is_whole width bs
unfolding is_whole
whole-asked width bs n is h = rw (is, le-leb width (length bs) h)

pub whole-few : (width : ℕ) (bs : List ℕ) → length bs < width → is_whole width bs ≡ false
unfolding is_whole
whole-few width bs h = rw (lt-leb width (length bs) h)

pub whole-reaches : (width : ℕ) (bs : List ℕ) → is_whole width bs ≡ true → width ≤ length bs
unfolding is_whole
whole-reaches width bs t = leb-true width (length bs) (and_left (leb width (length bs)) (eqb (number 256 (take width bs)) (length bs - width)) t)

-- what a list's bytes hold, where its length reaches exactly the end
module _ {A : Type 0} (width : ℕ) (bs : List ℕ) (f : List ℕ → Option A) where
  pub after-whole : is_whole width bs ≡ true → bind (whole width bs) f ≡ f (drop width bs)
  unfolding bind
  after-whole t = rw (whole_is width bs t)

  pub after-other : is_whole width bs ≡ false → bind (whole width bs) f ≡ none
  unfolding bind
  after-other t = rw (whole-not width bs t)

-- ---- 16-bit numbers

pub length-words-in : (bs : List ℕ) → length bs % 2 ≡ 0 → length bs ≡ 2 * length (words_in bs)
unfolding words_in
length-words-in [] h = refl
length-words-in (a ∷ []) h = absurd (let z : 1 % 2 ≡ 0 = h in omega (arith, z))
length-words-in (a ∷ b ∷ bs) h = omega (arith, length-words-in bs (omega arith))

words-asked : (bs : List ℕ) → within 64 (even_words bs) ≡ count_asked (length bs)
unfolding within even_words count_asked
words-asked bs = go (leb 2 (length bs) && eqb (length bs % 2) 0) refl
  where
    go : (b : Bool) → leb 2 (length bs) && eqb (length bs % 2) 0 ≡ b
        → within 64 (cond b (some (words_in bs)) none) ≡ cond b (cond (leb (length bs) 128) 0 23) 21
    go false e = refl
    go true e =
        let half : length bs ≡ 2 * length (words_in bs) =
        length-words-in bs (eqb-true (length bs % 2) 0 (and_right (leb 2 (length bs)) (eqb (length bs % 2) 0) e)) in
        ⊎_elim (λ many. rw (lt-leb (length bs) 128 many, lt-leb (length (words_in bs)) 64 (omega arith)))
        (λ few. rw (le-leb (length bs) 128 few, le-leb (length (words_in bs)) 64 (omega arith))) (lt-or-le 128 (length bs))

module _ (width : ℕ) (bs : List ℕ) where
  pub words-whole : is_whole width bs ≡ true → within 64 (word_list width bs) ≡ count_asked (length bs - width)
  unfolding word_list
  words-whole t = rw (after-whole width bs even_words t, words-asked (drop width bs), length-drop width bs)

  pub words-other : is_whole width bs ≡ false → within 64 (word_list width bs) ≡ 21
  unfolding word_list within
  words-other t = rw (after-other width bs even_words t)

module _ (n : ℕ) where
  pub count-few : n < 2 → count_asked n ≡ 21
  unfolding count_asked
  count-few h = rw (lt-leb 2 n h)

  pub count-odd : 2 ≤ n → (n % 2 ≡ 0 → ⊥) → count_asked n ≡ 21
  unfolding count_asked
  count-odd h k = rw (le-leb 2 n h, ne_eqb (n % 2) 0 k)

  pub count-even : 2 ≤ n → n % 2 ≡ 0 → count_asked n ≡ cond (leb n 128) 0 23
  unfolding count_asked
  count-even h k = rw (le-leb 2 n h, eq-eqb (n % 2) 0 k)

-- ---- The server name's entry

named : List ℕ → Option (List ℕ)
named bs = bind (whole 2 bs) (λ n. at_least 1 n)

named-whole : (bs : List ℕ) → 3 ≤ length bs → is_whole 2 bs ≡ true → named bs ≡ some (drop 2 bs)
unfolding named at_least
named-whole bs h t = after-whole 2 bs (λ n. at_least 1 n) t ∙ rw (le-leb 1 (length (drop 2 bs)) (omega (arith, length-drop 2 bs)))

named-few : (bs : List ℕ) → length bs < 3 → named bs ≡ none
unfolding named at_least
named-few bs h = go (is_whole 2 bs) refl
  where
    go : (b : Bool) → is_whole 2 bs ≡ b → named bs ≡ none
    go true t = after-whole 2 bs (λ n. at_least 1 n) t ∙ rw (lt-leb 1 (length (drop 2 bs)) (omega (arith, length-drop 2 bs)))
    go false t = after-other 2 bs (λ n. at_least 1 n) t

module _ (bs : List ℕ) where
  entry-is : 1 ≤ length bs → one_entry bs ≡ cond (eqb (get_or bs 0 0) 0) (named (drop 1 bs)) none
  unfolding one_entry bind named
  entry-is h = rw (number-there 1 bs h, number-one bs h)

  pub entry-few : length bs < 4 → one_entry bs ≡ none
  unfolding one_entry bind
  entry-few h =
      let either : (b : Bool) → cond b (named (drop 1 bs)) none ≡ none =
      λ b. both b (named-few (drop 1 bs) (omega (arith, length-drop 1 bs))) in
      ⊎_elim (λ k. rw (number_cut 1 bs k)) (λ k. entry-is k ∙ either (eqb (get_or bs 0 0) 0)) (lt-or-le (length bs) 1)
    where
      both : {A : Type 0} {x : Option A} (b : Bool) → x ≡ none → cond b x none ≡ none
      both true e = e
      both false e = refl

  module _ (h : 4 ≤ length bs) where
    pub entry-type : (get_or bs 0 0 ≡ 0 → ⊥) → one_entry bs ≡ none
    entry-type k = entry-is (omega arith) ∙ rw (ne_eqb (get_or bs 0 0) 0 k)

    pub entry_other : get_or bs 0 0 ≡ 0 → is_whole 2 (drop 1 bs) ≡ false → one_entry bs ≡ none
    unfolding named
    entry_other k t = entry-is (omega arith) ∙ rw (eq-eqb (get_or bs 0 0) 0 k, after-other 2 (drop 1 bs) (λ n. at_least 1 n) t)

    pub entry_whole : get_or bs 0 0 ≡ 0 → is_whole 2 (drop 1 bs) ≡ true → one_entry bs ≡ some (drop 2 (drop 1 bs))
    entry_whole k t = entry-is (omega arith) ∙ rw (eq-eqb (get_or bs 0 0) 0 k, named-whole (drop 1 bs) (omega (arith, length-drop 1 bs)) t)

-- ---- Lists of entries, by their count

module _ {A : Type 0} (m : ℕ) (x : Option (List A)) where
  pub within_none : x ≡ none → within m x ≡ 21
  unfolding within
  within_none e = rw e

  pub within-cut : plus 0 x ≡ none → within m x ≡ 21
  within-cut e = within_none (plus_none x e)

  pub within_count : (k : ℕ) → plus 0 x ≡ some k → within m x ≡ cond (leb k m) 0 23
  unfolding within
  within_count k e = let c = plus-some x k e in rw (c.there, c.long)

-- what is asked of so many entries
abbrev pub counted : ℕ → ℕ → Option ℕ → ℕ
counted least m none = 21
counted least m (some k) = cond (leb least k) (cond (leb k m) 0 23) 21

pub within-counted : {A : Type 0} (least m : ℕ) (x : Option (List A)) → within m (bind x (at_least least)) ≡ counted least m (plus 0 x)
unfolding within bind at_least plus
within-counted least m none = refl
within-counted least m (some l) =
    both (leb least (length l)) ∙ ap (λ (n : ℕ). cond (leb least n) (cond (leb n m) 0 23) 21) (let z : length l ≡ 0 + length l = omega arith in z)
  where
    both : (b : Bool) → within m (cond b (some l) none) ≡ cond b (cond (leb (length l) m) 0 23) 21
    both true = refl
    both false = refl

-- a list behind its length, by the count of its entries
module _ {A : Type 0} (one : List ℕ → Option (Entry A)) (least m : ℕ) (bs : List ℕ) where
  abbrev listed : List ℕ → Option (List A)
  listed l = bind (all_entries one l) (at_least least)

  pub list-other : is_whole 2 bs ≡ false → within m (bind (whole 2 bs) listed) ≡ 21
  list-other t = within_none m (bind (whole 2 bs) listed) (after-other 2 bs listed t)

  pub list-counted : (n : Option ℕ) → is_whole 2 bs ≡ true → plus 0 (all_entries one (drop 2 bs)) ≡ n → within m (bind (whole 2 bs) listed) ≡ counted least m n
  list-counted n t e =
      ap (λ (x : Option (List A)). within m x) (after-whole 2 bs listed t)
      ∙ within-counted least m (all_entries one (drop 2 bs))
      ∙ ap (counted least m) e

-- a list's entries told by a part are as many
module _ {A B : Type 0} (f : A → B) where
  plus_mapped : (x : Option (List A)) → plus 0 (mapped (map f) x) ≡ plus 0 x
  unfolding mapped plus
  plus_mapped none = refl
  plus_mapped (some l) = ap (λ (n : ℕ). some (0 + n)) (length-map l f)

  within-shown : (least m : ℕ) (one : List ℕ → Option (Entry A)) (l : List ℕ)
      → within m (bind (all_entries (shown f one) l) (at_least least)) ≡ within m (bind (all_entries one l) (at_least least))
  within-shown least m one l =
      within-counted least m (all_entries (shown f one) l)
      ∙ ap (counted least m) (ap (λ (x : Option (List B)). plus 0 x) (all_shown f one l) ∙ plus_mapped (all_entries one l))
      ∙ sym (within-counted least m (all_entries one l))

  pub list-shown : (least m : ℕ) (one : List ℕ → Option (Entry A)) (x : Option (List ℕ))
      → within m (bind x (λ l. bind (all_entries (shown f one) l) (at_least least))) ≡ within m (bind x (λ l. bind (all_entries one l) (at_least least)))
  unfolding bind within
  list-shown least m one none = refl
  list-shown least m one (some l) = within-shown least m one l

-- a list that may be empty
pub any-many : {A : Type 0} (m : ℕ) (x : Option (List ℕ)) (f : List ℕ → Option (List A)) → within m (bind x (λ l. bind (f l) (at_least 0))) ≡ within m (bind x f)
unfolding within bind at_least
any-many m none f = refl
any-many {A} m (some l) f = go (f l)
  where
    go : (y : Option (List A)) → within m (bind y (at_least 0)) ≡ within m y
    go none = refl
    go (some k) = rw (le-leb 0 (length k) zero-le)
