-- Tests and values at places one after the other: `each` and `values`. Assumes nothing.
use Prim.Native.Nat.{ℕ, zero, suc, ◌+◌, ◌≤◌, ◌<◌}
use mathlib.Core.Path.{◌≡◌, refl, sym, ap}
use mathlib.Core.Logic.{⊎_elim}
use mathlib.Core.Bool.{Bool, true, ◌&&◌, and-true, and_assoc}
use mathlib.Core.List.{List, [], ◌∷◌, ◌++◌}
use native.Mathlib.Nat.{not-suc-le-zero, le_of_suc-le-suc}
use native.Mathlib.Numerals.{add-one}
use native.Mathlib.Omega.{arith}
use lib.ListN.{length, get_or, replicate}
use Rattle.wire.proofs.ListLaws.{lt-or-le}
use Rattle.wire.proofs.SumLaws.{and_left, and_right}
use Rattle.frames.specs.Stream.{each, values}

-- ---- each

each-suc : (q : ℕ → Bool) (at n : ℕ) → each q at (suc n) ≡ each q at n && q (at + n)
unfolding each
each-suc q at zero = let z : at + 0 ≡ at = omega arith in rw (z, and-true)
each-suc q at (suc n) =
    let z : at + suc n ≡ suc at + n = omega arith in
    rw (z, and_assoc) (ap (λ (b : Bool). q at && b) (each-suc q (suc at) n))

-- a loop that goes from the front on asks at one place more
pub each_more : (q : ℕ → Bool) (n : ℕ) → each q 0 n && q n ≡ each q 0 (n + 1)
each_more q n = let z : 0 + n ≡ n = omega arith in let e = each-suc q 0 n in rw add-one (sym (rw z at e))

-- two tests that go together, from any two places on
pub each_same : (q r : ℕ → Bool) (at from n : ℕ) → ((j : ℕ) → j < n → q (at + j) ≡ r (from + j)) → each q at n ≡ each r from n
unfolding each
each_same q r at from zero h = refl
each_same q r at from (suc n) h =
    let a : at + 0 ≡ at = omega arith in
    let b : from + 0 ≡ from = omega arith in
    let first : q at ≡ r from = rw (a, b) at (h 0 (omega arith)) in
    rw (first, each_same q r (suc at) (suc from) n (λ j l. next j (h (suc j) (omega arith))))
  where
    next : (j : ℕ) → q (at + suc j) ≡ r (from + suc j) → q (suc at + j) ≡ r (suc from + j)
    next j e =
        let a : suc at + j ≡ at + suc j = omega arith in
        let b : suc from + j ≡ from + suc j = omega arith in
        rw (a, b) e

pub each_at : (q : ℕ → Bool) (at n i : ℕ) → each q at n ≡ true → at ≤ i → i < at + n → q i ≡ true
unfolding each
each_at q at zero i e h k = absurd (omega arith)
each_at q at (suc n) i e h k =
    ⊎_elim
    (λ l. each_at q (suc at) n i (and_right (q at) (each q (suc at) n) e) l (omega arith))
    (λ l. let z : at ≡ i = omega arith in rw z at (and_left (q at) (each q (suc at) n) e))
    (lt-or-le at i)

pub each_all : (q : ℕ → Bool) (at n : ℕ) → ((i : ℕ) → at ≤ i → i < at + n → q i ≡ true) → each q at n ≡ true
unfolding each
each_all q at zero h = refl
each_all q at (suc n) h = rw (h at (omega arith) (omega arith)) (each_all q (suc at) n (λ i a b. h i (omega arith) (omega arith)))

-- ---- values

pub length-values : (f : ℕ → ℕ) (at n : ℕ) → length (values f at n) ≡ n
unfolding values
length-values f at zero = refl
length-values f at (suc n) = ap suc (length-values f (suc at) n)

-- a list, by what it holds from its front on
pub values_of : (l : List ℕ) (f : ℕ → ℕ) (at n : ℕ) → length l ≡ n → ((j : ℕ) → j < n → get_or l j 0 ≡ f (at + j)) → l ≡ values f at n
unfolding values
values_of [] f at zero e h = refl
values_of [] f at (suc n) e h = absurd (omega arith)
values_of (x ∷ l) f at zero e h = absurd (omega arith)
values_of (x ∷ l) f at (suc n) e h =
    let a : at + 0 ≡ at = omega arith in
    let first : x ≡ f at = rw a at (h 0 (omega arith)) in
    rw (first, ← values_of l f (suc at) n (omega arith) (λ j k. next j (h (suc j) (omega arith))))
  where
    next : (j : ℕ) → get_or l j 0 ≡ f (at + suc j) → get_or l j 0 ≡ f (suc at + j)
    next j e = let a : suc at + j ≡ at + suc j = omega arith in rw a e

pub get_or-values : (f : ℕ → ℕ) (at n j : ℕ) → j < n → get_or (values f at n) j 0 ≡ f (at + j)
unfolding values
get_or-values f at zero j h = absurd (not-suc-le-zero h)
get_or-values f at (suc n) zero h = let a : at + 0 ≡ at = omega arith in rw a
get_or-values f at (suc n) (suc j) h =
    let a : at + suc j ≡ suc at + j = omega arith in rw a (get_or-values f (suc at) n j (le_of_suc-le-suc h))

pub values_same : (f g : ℕ → ℕ) (at n : ℕ) → ((i : ℕ) → at ≤ i → i < at + n → f i ≡ g i) → values f at n ≡ values g at n
unfolding values
values_same f g at zero h = refl
values_same f g at (suc n) h =
    rw (h at (omega arith) (omega arith), values_same f g (suc at) n (λ i a b. h i (omega arith) (omega arith)))

pub values-constant : (f : ℕ → ℕ) (v at n : ℕ) → ((i : ℕ) → at ≤ i → i < at + n → f i ≡ v) → values f at n ≡ replicate n v
unfolding values
values-constant f v at zero h = refl
values-constant f v at (suc n) h =
    rw (h at (omega arith) (omega arith), values-constant f v (suc at) n (λ i a b. h i (omega arith) (omega arith)))

pub values-split : (f : ℕ → ℕ) (at m n : ℕ) → values f at (m + n) ≡ values f at m ++ values f (at + m) n
unfolding values
values-split f at zero n =
    let a : at + 0 ≡ at = omega arith in let b : 0 + n ≡ n = omega arith in rw (a, b)
values-split f at (suc m) n =
    let a : at + suc m ≡ suc at + m = omega arith in
    let b : suc m + n ≡ suc (m + n) = omega arith in
    rw (a, b, values-split f (suc at) m n)
