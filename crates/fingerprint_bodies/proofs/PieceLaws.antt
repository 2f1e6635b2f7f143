-- One piece of a message: when it is there, and when not. Assumes nothing.
use Prim.Native.Nat.{ℕ, ◌-◌, ◌≤◌, ◌<◌}
use mathlib.Core.Path.{◌≡◌, refl, sym, ap, ◌∙◌}
use mathlib.Core.Bool.{Bool, true, false, ◌&&◌, false≢true}
use mathlib.Core.Logic.{⊎_elim}
use mathlib.Core.List.{List}
use mathlib.Core.Option.{none, some}
use native.Mathlib.Omega.{arith}
use borrow.Author.Tests.{le-leb, lt-leb, eq-eqb, leb-true, leb-false, eqb-true, ne_eqb}
use lib.ListN.{length, take, drop, length-drop}
use lib.Seq.{take_all}
use lib.Dec.{eqb, leb}
use Rattle.wire.specs.Numbers.{number}
use Rattle.wire.proofs.ListLaws.{lt-or-le}
use Rattle.wire.proofs.SumLaws.{and_left, and_right}
use Rattle.fingerprint_bodies.specs.Entries.{entry, bind, taken, number_at, vector_at, whole}
use Rattle.fingerprint_bodies.specs.Code.{is_whole}

pub taken-there : (n : ℕ) (bs : List ℕ) → n ≤ length bs → taken n bs ≡ some (entry (take n bs) (drop n bs))
unfolding taken
taken-there n bs h = rw (le-leb n (length bs) h)

pub taken-cut : (n : ℕ) (bs : List ℕ) → length bs < n → taken n bs ≡ none
unfolding taken
taken-cut n bs h = rw (lt-leb n (length bs) h)

pub number-there : (width : ℕ) (bs : List ℕ) → width ≤ length bs
    → number_at width bs ≡ some (entry (number 256 (take width bs)) (drop width bs))
unfolding number_at
number-there width bs h = rw (le-leb width (length bs) h)

pub number_cut : (width : ℕ) (bs : List ℕ) → length bs < width → number_at width bs ≡ none
unfolding number_at
number_cut width bs h = rw (lt-leb width (length bs) h)

pub vector-short : (width : ℕ) (bs : List ℕ) → length bs < width → vector_at width bs ≡ none
unfolding vector_at bind
vector-short width bs h = rw (number_cut width bs h)

-- n is the count that stands in front
module _ (width : ℕ) (bs : List ℕ) (n : ℕ) (is : number 256 (take width bs) ≡ n) (h : width ≤ length bs) where
  pub vector-there : n ≤ length bs - width → vector_at width bs ≡ some (entry (take n (drop width bs)) (drop n (drop width bs)))
  unfolding vector_at bind
  vector-there k = rw (number-there width bs h, is) (taken-there n (drop width bs) (omega (arith, length-drop width bs)))

  pub vector-cut : length bs - width < n → vector_at width bs ≡ none
  unfolding vector_at bind
  vector-cut k = rw (number-there width bs h, is) (taken-cut n (drop width bs) (omega (arith, length-drop width bs)))

-- ---- a vector that reaches exactly the end

module _ (width : ℕ) (bs : List ℕ) where
  pub whole-there : width ≤ length bs → number 256 (take width bs) ≡ length bs - width → whole width bs ≡ some (drop width bs)
  unfolding whole bind
  whole-there h e =
      let n : ℕ = length bs - width in
      let long : length (drop width bs) ≡ n = length-drop width bs in
      let none_left : length (drop n (drop width bs)) ≡ 0 = omega (arith, length-drop n (drop width bs), long) in
      rw (vector-there width bs n e h (omega arith), eq-eqb (length (drop n (drop width bs))) 0 none_left)
      (ap (λ (l : List ℕ). some l) (take_all n (drop width bs) (omega (arith, long))))

  pub whole-short : length bs < width → whole width bs ≡ none
  unfolding whole bind
  whole-short h = rw (vector-short width bs h)

  pub whole-other : width ≤ length bs → (number 256 (take width bs) ≡ length bs - width → ⊥) → whole width bs ≡ none
  unfolding whole bind
  whole-other h e =
      let n : ℕ = number 256 (take width bs) in
      let long : length (drop width bs) ≡ length bs - width = length-drop width bs in
      let within : n ≤ length bs - width → whole width bs ≡ none =
      λ k. rw (
        vector-there width bs n refl h k,
        ne_eqb (length (drop n (drop width bs))) 0 (λ none_left. e (omega (arith, none_left, length-drop n (drop width bs), long))),
      ) in
      let beyond : length bs - width < n → whole width bs ≡ none = λ k. rw (vector-cut width bs n refl h k) in
      ⊎_elim beyond within (lt-or-le (length bs - width) n)

  pub whole_is : is_whole width bs ≡ true → whole width bs ≡ some (drop width bs)
  unfolding is_whole
  whole_is t =
      whole-there (leb-true width (length bs) (and_left (leb width (length bs)) _ t))
      (eqb-true (number 256 (take width bs)) (length bs - width) (and_right (leb width (length bs)) _ t))

  pub whole-not : is_whole width bs ≡ false → whole width bs ≡ none
  unfolding is_whole
  whole-not t = go (leb width (length bs)) refl t
    where
      go : (b : Bool) → leb width (length bs) ≡ b → b && eqb (number 256 (take width bs)) (length bs - width) ≡ false → whole width bs ≡ none
      go false e k = whole-short (leb-false width (length bs) e)
      go true e k = whole-other (leb-true width (length bs) e) (λ same. absurd (false≢true (sym k ∙ eq-eqb (number 256 (take width bs)) (length bs - width) same)))
