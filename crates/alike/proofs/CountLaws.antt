-- Numbers counted one after the other, and arrays of which the first numbers are compared. Assumes nothing.
use Prim.Native.Nat.{ℕ, ◌+◌, ◌≤◌, ◌<◌}
use mathlib.Core.Path.{◌≡◌, sym, ap, ◌∙◌}
use mathlib.Core.Bool.{true, false}
use mathlib.Core.List.{List, [], ◌∷◌, map}
use native.Mathlib.Omega.{arith}
use native.Mathlib.Numerals.{add-one}
use lib.ListN.{length, take, drop, get_or, length-map, drop_of_length-le}
use lib.Seq.{drop-cons}
use borrow.Author.Tests.{eq-eqb, ne_eqb}
use Rattle.wire.specs.Sums.{count, equally_often}
use Rattle.wire.proofs.SumLaws.{count-cons, member-nil, member-some}
use Rattle.fingerprint_lists.specs.Arrays.{padded}
use Rattle.fingerprint.proofs.ShownLaws.{take-padded}

-- ---- an array of the numbers of the items, of which the first are compared

pub first-numbers : {A : Type 0} (f : A → ℕ) (items : List A) {numbers : List ℕ} → numbers ≡ padded 64 0 (map f items)
    → take (length items) numbers ≡ map f items
first-numbers f items e = ap (take (length items)) e ∙ take-padded 64 0 (map f items) (length items) (length-map items f)

-- ---- the numbers from place i on

module _ (items : List ℕ) (i : ℕ) where
  module _ (h : i < length items) where
    next : drop i items ≡ get_or items i 0 ∷ drop (i + 1) items
    next = rw (add-one i) (drop-cons items i 0 h)

    pub counts-here : (x : ℕ) → get_or items i 0 ≡ x → count x (drop i items) ≡ 1 + count x (drop (i + 1) items)
    counts-here x e =
        ap (count x) next ∙ count-cons x (get_or items i 0) (drop (i + 1) items) ∙ rw (eq-eqb x (get_or items i 0) (sym e))

    pub counts-on : (x : ℕ) → (get_or items i 0 ≡ x → ⊥) → count x (drop i items) ≡ count x (drop (i + 1) items)
    counts-on x o =
        ap (count x) next ∙ count-cons x (get_or items i 0) (drop (i + 1) items) ∙ rw (ne_eqb x (get_or items i 0) (λ e. o (sym e))) (omega arith)

    module _ (a b : List ℕ) where
      pub often-not : (count (get_or items i 0) a ≡ count (get_or items i 0) b → ⊥) → equally_often a b (drop i items) ≡ false
      unfolding equally_often
      often-not o = rw (next, ne_eqb (count (get_or items i 0) a) (count (get_or items i 0) b) o)

      pub often-on : count (get_or items i 0) a ≡ count (get_or items i 0) b → equally_often a b (drop i items) ≡ equally_often a b (drop (i + 1) items)
      unfolding equally_often
      often-on e = ap (equally_often a b) next ∙ rw (eq-eqb (count (get_or items i 0) a) (count (get_or items i 0) b) e)

  module _ (h : length items ≤ i) where
    none_left : drop i items ≡ []
    none_left = drop_of_length-le items {i = i} h

    pub counts_end : (x : ℕ) → count x (drop i items) ≡ 0
    counts_end x = rw none_left (member-some x [] (member-nil x))

    pub often-end : (a b : List ℕ) → equally_often a b (drop i items) ≡ true
    unfolding equally_often
    often-end a b = rw none_left
