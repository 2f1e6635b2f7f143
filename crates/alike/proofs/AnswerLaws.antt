-- What answers of the code say together: of one test after the other, and of lists and parts that are compared. Assumes nothing.
use Prim.Native.Nat.{ℕ}
use mathlib.Core.Path.{◌≡◌, refl, sym, ap, ap₂, ◌∙◌}
use mathlib.Core.Bool.{Bool, true, false, not, ◌&&◌, false≢true}
use mathlib.Core.List.{List, [], ◌∷◌, map}
use lib.Dec.{eqb}
use lib.Pointwise.{pointwise}
use Rattle.alike.specs.Alike.{same_list, same_numbers}

-- ---- one test after the other: the code answers by the first that fails, else by the last

module _ (p q : Bool) where
  pub fails : {r : Bool} → r ≡ p → r ≡ false → false ≡ p && q
  fails {r} e f = rw (← e, f)

  pub passes : {r s : Bool} → r ≡ p → r ≡ true → s ≡ q → s ≡ p && q
  passes {r} e f g = rw (← e, f) g

pub five : (p q r s t : Bool) → (((p && q) && r) && s) && t ≡ p && (q && (r && (s && t)))
five true true true s t = refl
five true true false s t = refl
five true false r s t = refl
five false q r s t = refl

-- ---- lists compared place by place

pub list-same : {A : Type 0} (q : A → A → Bool) (a b : List A) → pointwise q a b ≡ same_list q a b
unfolding same_list
list-same q [] [] = refl
list-same q [] (y ∷ b) = refl
list-same q (x ∷ a) [] = refl
list-same q (x ∷ a) (y ∷ b) = ap (λ (t : Bool). q x y && t) (list-same q a b)

-- the same of what stands for numbers
pub numbers-same : {A : Type 0} (number : A → ℕ) (a b : List A) → pointwise (λ x y. eqb (number x) (number y)) a b ≡ same_numbers (map number a) (map number b)
unfolding same_list
numbers-same number [] [] = refl
numbers-same number [] (y ∷ b) = refl
numbers-same number (x ∷ a) [] = refl
numbers-same number (x ∷ a) (y ∷ b) = ap (λ (t : Bool). eqb (number x) (number y) && t) (numbers-same number a b)

-- ---- two parts, by the bytes that `part` returned of them

not-false : (t : Bool) → not t ≡ false → t ≡ true
not-false true e = refl
not-false false e = absurd (false≢true (sym e))

not-true : (t : Bool) → not t ≡ true → t ≡ false
not-true true e = absurd (false≢true e)
not-true false e = refl

module _ {a b p q : List ℕ} (f : p ≡ a) (g : q ≡ b) where
  pub parts-as : pointwise eqb p q ≡ same_numbers a b
  parts-as = list-same eqb p q ∙ ap₂ same_numbers f g

  -- r is whether they differ
  module _ {r : Bool} (e : r ≡ not (pointwise eqb p q)) where
    pub parts_same : r ≡ false → same_numbers a b ≡ true
    parts_same h = sym parts-as ∙ not-false (pointwise eqb p q) (sym e ∙ h)

    pub parts-differ : r ≡ true → same_numbers a b ≡ false
    parts-differ h = sym parts-as ∙ not-true (pointwise eqb p q) (sym e ∙ h)
