-- Numbers in a list: looking for one, and one more after others that are all new. Assumes nothing.
use Prim.Native.Nat.{ℕ, ◌+◌, ◌≤◌, ◌<◌}
use mathlib.Core.Path.{◌≡◌, refl, sym, ap, ◌∙◌}
use mathlib.Core.Bool.{Bool, true, false, ◌||◌, true≢false}
use mathlib.Core.List.{List, [], ◌∷◌, ◌++◌}
use native.Mathlib.Decide.{ℕ_discrete}
use native.Mathlib.Omega.{arith}
use lib.ListN.{length, take, get_or}
use lib.Dec.{eqb}
use borrow.Author.Tests.{ne_eqb}
use Rattle.std.specs.List.{list_any}
use Rattle.wire.specs.Sums.{indicator, count, any, member, distinct}
use Rattle.wire.proofs.SumLaws.{count-append, member-none, member-some, distinct-once, once-distinct, indicator-le}
use Rattle.fingerprint_order.proofs.MemberLaws.{distinct_nil, count-one, one_more}

-- ---- a number after others

pub member-last : (x y : ℕ) (l : List ℕ) → (x ≡ y → ⊥) → member x (l ++ (y ∷ [])) ≡ true → member x l ≡ true
member-last x y l o e = go (member x l) refl
  where
    go : (t : Bool) → member x l ≡ t → t ≡ true
    go true q = refl
    go false q =
        let none-there : count x (l ++ (y ∷ [])) ≡ 0 =
        omega (arith, count-append x l (y ∷ []), count-one x y, ap indicator (ne_eqb x y o), member-some x l q) in
        absurd (true≢false (sym e ∙ member-none x (l ++ (y ∷ [])) none-there))

distinct-last : (x : ℕ) (l : List ℕ) → distinct l ≡ true → member x l ≡ false → distinct (l ++ (x ∷ [])) ≡ true
distinct-last x l d m = once-distinct (l ++ (x ∷ [])) once
  where
    once : (y : ℕ) → count y (l ++ (x ∷ [])) ≤ 1
    once y = go (ℕ_discrete y x)
      where
        go : Dec (y ≡ x) → count y (l ++ (x ∷ [])) ≤ 1
        go (yes p) = rw p (omega (arith, count-append x l (x ∷ []), count-one x x, member-some x l m, indicator-le (eqb x x)))
        go (no q) = omega (arith, count-append y l (x ∷ []), count-one y x, ap indicator (ne_eqb y x q), distinct-once l d y)

-- ---- place i of a list, whose first numbers are known

module _ (l : List ℕ) (i : ℕ) (h : i < length l) where
  pub new-next : distinct (take i l) ≡ true → member (get_or l i 0) (take i l) ≡ false → distinct (take (i + 1) l) ≡ true
  new-next d m = rw (one_more l i h) (distinct-last (get_or l i 0) (take i l) d m)

pub new-start : (l : List ℕ) → distinct (take 0 l) ≡ true
new-start l = distinct_nil

-- ---- what the library's `contains` answers

eqb-turned : (x y : ℕ) → eqb y x ≡ eqb x y
eqb-turned x y = go (ℕ_discrete x y)
  where
    go : Dec (x ≡ y) → eqb y x ≡ eqb x y
    go (yes p) = rw p refl
    go (no q) = ne_eqb y x (λ e. q (sym e)) ∙ sym (ne_eqb x y q)

pub contains-member : (x : ℕ) (l : List ℕ) → list_any (λ y. eqb y x) l ≡ member x l
unfolding member any
contains-member x [] = refl
contains-member x (y ∷ l) = rw (eqb-turned x y) (ap (λ (b : Bool). eqb x y || b) (contains-member x l))
