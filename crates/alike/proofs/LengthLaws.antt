-- Two lists of one length have the same counts where each number of the first stands as often in both; lists of two lengths have not.
-- Assumes nothing.
use Prim.Native.Nat.{ℕ, ◌<◌}
use mathlib.Core.Path.{◌≡◌, refl, sym}
use mathlib.Core.Bool.{Bool, true, false, ◌&&◌}
use mathlib.Core.List.{List, [], ◌∷◌}
use native.Mathlib.Omega.{arith}
use lib.ListN.{length}
use Rattle.wire.specs.Sums.{count, equally_often, same_counts}
use Rattle.wire.proofs.SumLaws.{count-cons, and_right, equally_often-at, same_counts-of, same_counts-to}
use Rattle.wire.proofs.CountLaws.{without, none-stands, stands, count-without, length_without}

-- ---- number by number

often-all : (a b : List ℕ) → length a ≡ length b → ((x : ℕ) → 0 < count x a → count x a ≡ count x b) → (z : ℕ) → count z a ≡ count z b
often-all [] [] e h z = refl
often-all [] (y ∷ b) e h z = absurd (omega (arith, e))
often-all (x ∷ a) b e h z =
    let there : 0 < count x b = omega (arith, h x (omega (arith, stands x a)), stands x a) in
    let less = often-all a (without x b) (omega (arith, e, length_without x b there))
    (λ y k. omega (arith, h y (omega (arith, count-cons y x a, k)), count-cons y x a, count-without x b there y)) in
    omega (arith, less z, count-cons z x a, count-without x b there z)

counts-length : (a b : List ℕ) → ((x : ℕ) → count x a ≡ count x b) → length a ≡ length b
counts-length [] [] h = refl
counts-length [] (y ∷ b) h = absurd (omega (arith, h y, none-stands y, stands y b))
counts-length (x ∷ a) b h =
    let there : 0 < count x b = omega (arith, h x, stands x a) in
    let less = counts-length a (without x b) (λ y. omega (arith, h y, count-cons y x a, count-without x b there y)) in
    omega (arith, less, length_without x b there)

-- ---- what the code asks

module _ (a b : List ℕ) where
  pub one-pass : length a ≡ length b → equally_often a b a ≡ same_counts a b
  unfolding same_counts
  one-pass e = go (equally_often a b a) refl
    where
      go : (x : Bool) → equally_often a b a ≡ x → x ≡ x && equally_often a b b
      go true p =
          let all = same_counts-of a b (often-all a b e (λ x k. equally_often-at a b a x p k)) in
          sym (and_right (equally_often a b a) (equally_often a b b) all)
      go false p = refl

  pub lengths_differ : (length a ≡ length b → ⊥) → false ≡ same_counts a b
  lengths_differ n = go (same_counts a b) refl
    where
      go : (x : Bool) → same_counts a b ≡ x → false ≡ x
      go true p = absurd (n (counts-length a b (same_counts-to a b p)))
      go false p = refl
