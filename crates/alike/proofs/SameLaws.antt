-- What the tests of lists and names say: they hold of equal ones and of no others. Assumes nothing.
use Prim.Native.Nat.{ℕ}
use mathlib.Core.Path.{◌≡◌, refl, sym, ap, ap₂}
use mathlib.Core.Bool.{Bool, true, false, false≢true}
use mathlib.Core.List.{List, [], ◌∷◌}
use mathlib.Core.Option.{Option, none, some}
use lib.Dec.{eqb}
use borrow.Author.Tests.{eqb-true, eq-eqb}
use Rattle.wire.proofs.SumLaws.{and_left, and_right}
use Rattle.alike.specs.Alike.{same_list, same_numbers, same_name}

-- a test that holds of equal elements and of no others
pub record Tests {A : Type 0} (q : A → A → Bool) : Type 0 where
  pub yes : (x y : A) → q x y ≡ true → x ≡ y
  pub self : (x : A) → q x x ≡ true

-- what such a test answers
module _ {A : Type 0} {q : A → A → Bool} (t : Tests q) (x y : A) where
  pub equal-yes : x ≡ y → q x y ≡ true
  equal-yes e = rw e (t.self y)

  pub equal-no : (x ≡ y → ⊥) → q x y ≡ false
  equal-no n = go (q x y) (λ e. n (t.yes x y e))
    where
      go : (b : Bool) → (b ≡ true → ⊥) → b ≡ false
      go true f = absurd (f refl)
      go false f = refl

  -- an answer that is yes exactly for equal elements is its answer
  pub equal_as : (b : Bool) → (b ≡ true → x ≡ y) → (x ≡ y → b ≡ true) → b ≡ q x y
  equal_as true f g = sym (equal-yes (f refl))
  equal_as false f g = sym (equal-no (λ e. false≢true (g e)))

pub number-tests : Tests eqb
number-tests = record { yes = λ x y e. eqb-true x y e; self = λ x. eq-eqb x x refl }

-- ---- lists

module _ {A : Type 0} (q : A → A → Bool) (t : Tests q) where
  list-yes : (a b : List A) → same_list q a b ≡ true → a ≡ b
  unfolding same_list
  list-yes [] [] e = refl
  list-yes [] (y ∷ b) e = absurd (false≢true e)
  list-yes (x ∷ a) [] e = absurd (false≢true e)
  list-yes (x ∷ a) (y ∷ b) e = ap₂ ◌∷◌ (t.yes x y (and_left (q x y) (same_list q a b) e)) (list-yes a b (and_right (q x y) (same_list q a b) e))

  list-self : (a : List A) → same_list q a a ≡ true
  unfolding same_list
  list-self [] = refl
  list-self (x ∷ a) = rw (t.self x, list-self a)

  pub list-tests : Tests (same_list q)
  list-tests = record { yes = list-yes; self = list-self }

pub numbers-tests : Tests same_numbers
numbers-tests = list-tests eqb number-tests

pub protocols-tests : Tests (same_list same_numbers)
protocols-tests = list-tests same_numbers numbers-tests

-- ---- names

name-yes : (a b : Option (List ℕ)) → same_name a b ≡ true → a ≡ b
unfolding same_name
name-yes none none e = refl
name-yes none (some b) e = absurd (false≢true e)
name-yes (some a) none e = absurd (false≢true e)
name-yes (some a) (some b) e = ap some (numbers-tests.yes a b e)

name-self : (a : Option (List ℕ)) → same_name a a ≡ true
unfolding same_name
name-self none = refl
name-self (some a) = numbers-tests.self a

pub name-tests : Tests same_name
name-tests = record { yes = name-yes; self = name-self }
