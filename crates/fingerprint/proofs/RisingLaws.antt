-- The rising order: it is a permutation, and it rises; strictly where each number stands once. Assumes nothing.
use Prim.Native.Nat.{ℕ, zero, suc, ◌+◌, ◌≤◌, ◌<◌, zero-le}
use mathlib.Core.Path.{◌≡◌, refl, sym, ap}
use mathlib.Core.Bool.{Bool, true, false, cond}
use mathlib.Core.List.{List, [], ◌∷◌, ◌++◌}
use native.Mathlib.Nat.{not-suc-le-zero, le_refl}
use native.Mathlib.Omega.{arith}
use lib.ListN.{length, get_or}
use mathlib.Core.Logic.{⊎_elim}
use Rattle.std.specs.List.Sorted.{IsPermutation, IsNonDecreasing}
use Rattle.std.specs.List.{fold}
use Rattle.std.proofs.lemmas.List.Sorted.{sum_by-IsPermutation}
use Rattle.wire.proofs.ListLaws.{lt-or-le}
use lib.Dec.{leb}
use borrow.Author.Tests.{leb-true, leb-false, le-leb, lt-leb, eq-eqb}
use Rattle.wire.specs.Sums.{indicator, total, Permutation, count, distinct}
use Rattle.wire.proofs.SumLaws.{length-permutes, count-permutes, count-cons, distinct-once}
use Rattle.fingerprint.specs.Calls.{insert, insert_all, rising}

-- each element is at most the next
abbrev pub Rises : List ℕ → Type 0
Rises l = (j : ℕ) → j + 1 < length l → get_or l j 0 ≤ get_or l (j + 1) 0

-- each element is less than the next
abbrev pub RisesStrictly : List ℕ → Type 0
RisesStrictly l = (j : ℕ) → j + 1 < length l → get_or l j 0 < get_or l (j + 1) 0

-- ---- The same elements

insert-total : (f : ℕ → ℕ) (t : ℕ) (l : List ℕ) → total f (insert t l) ≡ f t + total f l
unfolding insert total
insert-total f t [] = refl
insert-total f t (x ∷ l) = go (insert-total f t l) (insert-total f x l) (leb x t)
  where
    go : total f (insert t l) ≡ f t + total f l → total f (insert x l) ≡ f x + total f l
        → (b : Bool) → total f (cond b (x ∷ insert t l) (t ∷ insert x l)) ≡ f t + (f x + total f l)
    go p q true = omega (arith, p)
    go p q false = omega (arith, q)

insert_all-total : (f : ℕ → ℕ) (done l : List ℕ) → total f (insert_all done l) ≡ total f done + total f l
unfolding insert_all total
insert_all-total f done [] = omega arith
insert_all-total f done (t ∷ l) = omega (arith, insert_all-total f (insert t done) l, insert-total f t done)

pub rising-permutes : (l : List ℕ) → Permutation l (rising l)
unfolding rising total
rising-permutes l f = omega (arith, insert_all-total f [] l)

pub length-rising : (l : List ℕ) → length (rising l) ≡ length l
length-rising l = sym (length-permutes l (rising l) (rising-permutes l))

-- the next number is put among those before it
insert_all-snoc : (done l : List ℕ) (t : ℕ) → insert_all done (l ++ (t ∷ [])) ≡ insert t (insert_all done l)
unfolding insert_all
insert_all-snoc done [] t = refl
insert_all-snoc done (x ∷ l) t = insert_all-snoc (insert x done) l t

pub rising_snoc : (l : List ℕ) (t : ℕ) → rising (l ++ (t ∷ [])) ≡ insert t (rising l)
unfolding rising
rising_snoc l t = insert_all-snoc [] l t

-- ---- In order

-- the elements rise from b on
abbrev From : ℕ → List ℕ → Type 0
From b [] = Unit {0}
From b (x ∷ l) = (b ≤ x) × From x l

from-lower : (b x : ℕ) (l : List ℕ) → b ≤ x → From x l → From b l
from-lower b x [] h k = tt
from-lower b x (y ∷ l) h k = (omega (arith, h, k.0), k.1)

insert-from : (b t : ℕ) (l : List ℕ) → b ≤ t → From b l → From b (insert t l)
unfolding insert
insert-from b t [] h k = (h, tt)
insert-from b t (x ∷ l) h k = go (λ p. insert-from x t l p k.1) (λ p. insert-from t x l p (from-lower t x l p k.1)) (leb x t) refl
  where
    go : (x ≤ t → From x (insert t l)) → (t ≤ x → From t (insert x l)) → (y : Bool) → leb x t ≡ y
        → From b (cond y (x ∷ insert t l) (t ∷ insert x l))
    go p q true e = (k.0, p (leb-true x t e))
    go p q false e = let z : t < x = leb-false x t e in (h, q (omega arith))

insert_all-from : (done l : List ℕ) → From 0 done → From 0 (insert_all done l)
unfolding insert_all
insert_all-from done [] k = k
insert_all-from done (t ∷ l) k = insert_all-from (insert t done) l (insert-from 0 t done zero-le k)

rising-from : (l : List ℕ) → From 0 (rising l)
unfolding rising
rising-from l = insert_all-from [] l tt

from-rises : (b : ℕ) (l : List ℕ) → From b l → Rises l
from-rises b [] k j h = absurd (not-suc-le-zero h)
from-rises b (x ∷ []) k j h = absurd (omega arith)
from-rises b (x ∷ y ∷ l) k zero h = k.1.0
from-rises b (x ∷ y ∷ l) k (suc j) h = let e : suc j + 1 ≡ suc (j + 1) = omega arith in rw e (from-rises x (y ∷ l) k.1 j (omega arith))

pub rising-rises : (l : List ℕ) → Rises (rising l)
rising-rises l = from-rises 0 (rising l) (rising-from l)

-- ---- Strictly

once-strict : (l : List ℕ) → ((z : ℕ) → count z l ≤ 1) → Rises l → RisesStrictly l
once-strict [] once r j h = absurd (not-suc-le-zero h)
once-strict (x ∷ []) once r j h = absurd (omega arith)
once-strict (x ∷ y ∷ l) once r zero h =
    let other : x ≡ y → ⊥ =
    λ e. omega (arith, once x, count-cons x x (y ∷ l), count-cons x y l, ap indicator (eq-eqb x x refl), ap indicator (eq-eqb x y e)) in
    omega (arith, other, r 0 h)
once-strict (x ∷ y ∷ l) once r (suc j) h =
    let e : suc j + 1 ≡ suc (j + 1) = omega arith in
    let later : Rises (y ∷ l) = λ k q. let f : suc k + 1 ≡ suc (k + 1) = omega arith in rw f at (r (suc k) (omega arith)) in
    rw e (once-strict (y ∷ l) (λ z. omega (arith, once z, count-cons z x (y ∷ l))) later j (omega arith))

pub rising-strictly : (l : List ℕ) → distinct l ≡ true → RisesStrictly (rising l)
rising-strictly l d =
    once-strict (rising l) (λ z. omega (arith, count-permutes z l (rising l) (rising-permutes l), distinct-once l d z)) (rising-rises l)

-- ---- Only one list rises and has these elements

-- how many elements are at most x
at-most : ℕ → ℕ → ℕ
at-most x z = indicator (leb z x)

none-below : (x m : ℕ) (l : List ℕ) → x < m → From m l → total (at-most x) l ≡ 0
unfolding total at-most
none-below x m [] h k = refl
none-below x m (y ∷ l) h k = omega (arith, ap indicator (lt-leb y x (omega (arith, k.0))), none-below x y l (omega (arith, k.0)) k.1)

-- the first of a list that rises is in it, and so another's first is not above it
first-below : (x y : ℕ) (a b : List ℕ) → From y b → total (at-most x) (x ∷ a) ≡ total (at-most x) (y ∷ b) → y ≤ x
unfolding total at-most
first-below x y a b k e = ⊎_elim (λ h. absurd (omega (arith, e, ap indicator (le-leb x x (le_refl x)), ap indicator (lt-leb y x h), none-below x y b h k))) (λ h. h) (lt-or-le x y)

same-rising : (a b : List ℕ) (m n : ℕ) → From m a → From n b → Permutation a b → a ≡ b
unfolding total
same-rising [] [] m n j k p = refl
same-rising [] (y ∷ b) m n j k p = absurd (omega (arith, p (λ z. 1)))
same-rising (x ∷ a) [] m n j k p = absurd (omega (arith, p (λ z. 1)))
same-rising (x ∷ a) (y ∷ b) m n j k p =
    let e : x ≡ y = omega (arith, first-below x y a b k.1 (p (at-most x)), first-below y x b a j.1 (sym (p (at-most y)))) in
    let rest : Permutation a b = λ f. omega (arith, p f, ap f e) in
    rw e (ap (λ (l : List ℕ). y ∷ l) (same-rising a b x y j.1 k.1 rest))

rises-from : (m : ℕ) (l : List ℕ) → ((j : ℕ) → j < length l → m ≤ get_or l j 0) → ((i j : ℕ) → i ≤ j → j < length l → get_or l i 0 ≤ get_or l j 0) → From m l
rises-from m [] h r = tt
rises-from m (x ∷ l) h r =
    (h 0 (omega arith), rises-from x l (λ j k. r 0 (suc j) (omega arith) (omega arith)) (λ i j k q. r (suc i) (suc j) (omega arith) (omega arith)))

-- what the library's sort says of a list is what `rising` makes of it
summed : (f : ℕ → ℕ) (a : ℕ) (l : List ℕ) → fold (λ n x. n + f x) a l ≡ a + total f l
unfolding total
summed f a [] = omega arith
summed f a (x ∷ l) = omega (arith, summed f (a + f x) l)

pub sorted-is : (l s : List ℕ) → IsPermutation l s → IsNonDecreasing s → s ≡ rising l
sorted-is l s p n =
    same-rising s (rising l) 0 0 (rises-from 0 s (λ j k. zero-le) (λ i j h k. n i j 0 h k)) (rising-from l)
    (λ f. omega (arith, sum_by-IsPermutation f l s p, summed f 0 l, summed f 0 s, rising-permutes l f))
