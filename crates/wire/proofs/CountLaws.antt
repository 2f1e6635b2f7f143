-- How often numbers stand in a list from which one was taken. Assumes nothing.
use Prim.Native.Nat.{ℕ, suc, ◌+◌, ◌<◌}
use mathlib.Core.Path.{◌≡◌, refl, ap}
use mathlib.Core.Bool.{Bool, true, false, cond}
use mathlib.Core.List.{List, [], ◌∷◌}
use native.Mathlib.Omega.{arith}
use lib.ListN.{length}
use lib.Dec.{eqb}
use borrow.Author.Tests.{eq-eqb, eqb-true}
use Rattle.wire.specs.Sums.{indicator, count}
use Rattle.wire.proofs.SumLaws.{count-cons, member-nil, member-some}

-- a list without the first x that stands in it
unfoldable pub without : ℕ → List ℕ → List ℕ
without x [] = []
without x (y ∷ l) = cond (eqb x y) l (y ∷ without x l)

pub none-stands : (x : ℕ) → count x [] ≡ 0
none-stands x = member-some x [] (member-nil x)

pub stands : (x : ℕ) (l : List ℕ) → count x (x ∷ l) ≡ 1 + count x l
stands x l = rw (count-cons x x l, eq-eqb x x refl)

pub count-without : (x : ℕ) (l : List ℕ) → 0 < count x l → (z : ℕ) → count z l ≡ indicator (eqb z x) + count z (without x l)
unfolding without
count-without x [] h z = absurd (omega (arith, none-stands x, h))
count-without x (y ∷ l) h z = go (eqb x y) refl (count-without x l)
  where
    go : (b : Bool) → eqb x y ≡ b → (0 < count x l → (z : ℕ) → count z l ≡ indicator (eqb z x) + count z (without x l))
        → count z (y ∷ l) ≡ indicator (eqb z x) + count z (cond b l (y ∷ without x l))
    go true e more = rw (eqb-true x y e) (count-cons z y l)
    go false e more =
        omega (arith, count-cons z y l, count-cons z y (without x l), more (omega (arith, count-cons x y l, ap indicator e, h)) z)

pub length_without : (x : ℕ) (l : List ℕ) → 0 < count x l → length l ≡ suc (length (without x l))
unfolding without
length_without x [] h = absurd (omega (arith, none-stands x, h))
length_without x (y ∷ l) h = go (eqb x y) refl (length_without x l)
  where
    go : (b : Bool) → eqb x y ≡ b → (0 < count x l → length l ≡ suc (length (without x l)))
        → suc (length l) ≡ suc (length (cond b l (y ∷ without x l)))
    go true e more = refl
    go false e more = ap suc (more (omega (arith, count-cons x y l, ap indicator e, h)))
