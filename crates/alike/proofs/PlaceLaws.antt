-- Two lists compared place by place: what is left to compare. Assumes nothing.
use Prim.Native.Nat.{suc}
use mathlib.Core.Path.{◌≡◌, refl, sym, ap, ◌∙◌}
use mathlib.Core.Bool.{Bool, true, false, ◌&&◌}
use mathlib.Core.List.{List, [], ◌∷◌, map}
use native.Mathlib.Omega.{arith}
use lib.ListN.{length}
use Rattle.alike.specs.Alike.{same_list}

and-false : (t : Bool) {u : Bool} → false ≡ u → false ≡ t && u
and-false true e = e
and-false false e = refl

-- as the test q says of what f and g show
module _ {A B : Type 0} (f g : A → B) (q : B → B → Bool) where
  abbrev answer : List A → List A → Bool
  answer a b = same_list q (map f a) (map g b)

  pub lengths-differ : (a b : List A) → (length a ≡ length b → ⊥) → false ≡ answer a b
  unfolding same_list
  lengths-differ [] [] o = absurd (o refl)
  lengths-differ [] (y ∷ b) o = refl
  lengths-differ (x ∷ a) [] o = refl
  lengths-differ (x ∷ a) (y ∷ b) o = and-false (q (f x) (g y)) (lengths-differ a b (λ e. o (ap suc e)))

  pub one-differs : (x y : A) (a b : List A) → q (f x) (g y) ≡ false → false ≡ answer (x ∷ a) (y ∷ b)
  unfolding same_list
  one-differs x y a b e = rw e

  pub one-same : (x y : A) (a b : List A) → q (f x) (g y) ≡ true → answer (x ∷ a) (y ∷ b) ≡ answer a b
  unfolding same_list
  one-same x y a b e = rw e

  both-end : (a b : List A) → length a ≡ 0 → length b ≡ 0 → answer a b ≡ true
  unfolding same_list
  both-end [] [] e k = refl
  both-end [] (y ∷ b) e k = absurd (omega (arith, k))
  both-end (x ∷ a) b e k = absurd (omega (arith, e))

  pub none-left : (a b : List A) → length a ≡ length b → length a ≡ 0 → true ≡ answer a b
  none-left a b e n = sym (both-end a b n (sym e ∙ n))
