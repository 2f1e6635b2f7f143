-- Sums over lists, and what they say of counts, `member`, `distinct` and `same_counts`. A permutation keeps every sum. Assumes nothing.
use mathlib.Core.Path.{◌≡◌, refl, sym, ap, ◌∙◌}
use Prim.Native.Nat.{ℕ, zero, suc, ◌+◌, ◌≤◌, ◌<◌, zero-le}
use native.Mathlib.Nat.{le_of_suc-le-suc, not-suc-le-zero, le_refl}
use native.Mathlib.Decide.{ℕ_discrete, dec_lt}
use native.Mathlib.Omega.{arith}
use mathlib.Core.Bool.{Bool, true, false, not, ◌&&◌, ◌||◌, true≢false, false≢true}
use mathlib.Core.List.{List, [], ◌∷◌, ◌++◌, map}
use lib.ListN.{length, set, get_or, length-set}
use lib.Seq.{get_or-set_same, get_or-set_other}
use lib.Dec.{eqb}
use borrow.Author.Tests.{eq-eqb, eqb-true, not-true}
use Rattle.wire.specs.Sums.{indicator, total, Permutation, swapped, count, any, member, distinct, equally_often, same_counts}

module _ {A : Type 0} where
  pub total-append : (f : A → ℕ) (a b : List A) → total f (a ++ b) ≡ total f a + total f b
  unfolding total
  total-append f [] b = omega arith
  total-append f (x ∷ a) b = omega (arith, total-append f a b)

  pub total-map : {B : Type 0} (g : A → B) (f : B → ℕ) (a : List A) → total f (map g a) ≡ total (λ x. f (g x)) a
  unfolding total
  total-map g f [] = refl
  total-map g f (x ∷ a) = ap (λ (n : ℕ). f (g x) + n) (total-map g f a)

  pub total-le : (f g : A → ℕ) → ((x : A) → f x ≤ g x) → (a : List A) → total f a ≤ total g a
  unfolding total
  total-le f g h [] = zero-le
  total-le f g h (x ∷ a) = omega (arith, h x, total-le f g h a)

  pub length-total : (l : List A) → total (λ x. 1) l ≡ length l
  unfolding total
  length-total [] = refl
  length-total (x ∷ l) = omega (arith, length-total l)

  pub length-permutes : (a b : List A) → Permutation a b → length a ≡ length b
  length-permutes a b p = sym (length-total a) ∙ p (λ x. 1) ∙ length-total b

  -- a store changes a sum by what goes and what comes
  pub total-set : (f : A → ℕ) (d : A) (l : List A) (i : ℕ) (v : A) → i < length l → total f (set l i v) + f (get_or l i d) ≡ total f l + f v
  unfolding total
  total-set f d [] i v h = absurd (not-suc-le-zero h)
  total-set f d (x ∷ l) zero v h = omega arith
  total-set f d (x ∷ l) (suc i) v h = omega (arith, total-set f d l i v (le_of_suc-le-suc h))

  set-read : (d : A) (l : List A) (i j : ℕ) → i < length l → get_or (set l i (get_or l j d)) j d ≡ get_or l j d
  set-read d l i j h = go (ℕ_discrete j i)
    where
      go : Dec (j ≡ i) → get_or (set l i (get_or l j d)) j d ≡ get_or l j d
      go (yes p) = rw p (get_or-set_same l i (get_or l i d) d h)
      go (no q) = get_or-set_other l i j (get_or l j d) d q

  pub length-swapped : (d : A) (l : List A) (i j : ℕ) → length (swapped d l i j) ≡ length l
  unfolding swapped
  length-swapped d l i j = length-set (set l i (get_or l j d)) j (get_or l i d) ∙ length-set l i (get_or l j d)

  -- two places exchanged: a permutation
  pub swapped-permutes : (d : A) (l : List A) (i j : ℕ) → i < length l → j < length l → Permutation l (swapped d l i j)
  unfolding swapped
  swapped-permutes d l i j hi hj f =
      let a : total f (set l i (get_or l j d)) + f (get_or l i d) ≡ total f l + f (get_or l j d) = total-set f d l i (get_or l j d) hi in
      let b : total f (set (set l i (get_or l j d)) j (get_or l i d)) + f (get_or l j d) ≡ total f (set l i (get_or l j d)) + f (get_or l i d) =
      rw (set-read d l i j hi) at (total-set f d (set l i (get_or l j d)) j (get_or l i d) (omega (arith, length-set l i (get_or l j d)))) in
      omega arith

  pub any-of-total : (q : A → Bool) (l : List A) → 0 < total (λ x. indicator (q x)) l → any q l ≡ true
  unfolding total any
  any-of-total q [] h = absurd (omega arith)
  any-of-total q (x ∷ l) h = go (λ k. any-of-total q l k) (q x) h
    where
      go : (0 < total (λ x. indicator (q x)) l → any q l ≡ true) → (b : Bool) → 0 < indicator b + total (λ x. indicator (q x)) l → b || any q l ≡ true
      go ih true h = refl
      go ih false h = ih (omega arith)

  pub any_none : (q : A → Bool) (l : List A) → total (λ x. indicator (q x)) l ≡ 0 → any q l ≡ false
  unfolding total any
  any_none q [] h = refl
  any_none q (x ∷ l) h = go (λ k. any_none q l k) (q x) h
    where
      go : (total (λ x. indicator (q x)) l ≡ 0 → any q l ≡ false) → (b : Bool) → indicator b + total (λ x. indicator (q x)) l ≡ 0 → b || any q l ≡ false
      go ih true h = absurd (omega arith)
      go ih false h = ih (omega arith)

  pub none_any : (q : A → Bool) (l : List A) → any q l ≡ false → total (λ x. indicator (q x)) l ≡ 0
  unfolding total any
  none_any q [] h = refl
  none_any q (x ∷ l) h = go (λ k. none_any q l k) (q x) h
    where
      go : (any q l ≡ false → total (λ x. indicator (q x)) l ≡ 0) → (b : Bool) → b || any q l ≡ false → indicator b + total (λ x. indicator (q x)) l ≡ 0
      go ih true h = absurd (true≢false h)
      go ih false h = omega (arith, ih h)

-- ---- counts

pub member-nil : (x : ℕ) → member x [] ≡ false
unfolding member any
member-nil x = refl

equally_often-of : (a b : List ℕ) → ((x : ℕ) → count x a ≡ count x b) → (l : List ℕ) → equally_often a b l ≡ true
unfolding equally_often
equally_often-of a b h [] = refl
equally_often-of a b h (x ∷ l) = rw (eq-eqb (count x a) (count x b) (h x)) (equally_often-of a b h l)

pub count-append : (x : ℕ) (a b : List ℕ) → count x (a ++ b) ≡ count x a + count x b
unfolding count
count-append x a b = total-append (λ y. indicator (eqb x y)) a b

pub count-permutes : (x : ℕ) (a b : List ℕ) → Permutation a b → count x a ≡ count x b
unfolding count
count-permutes x a b p = p (λ y. indicator (eqb x y))

pub member-none : (x : ℕ) (l : List ℕ) → count x l ≡ 0 → member x l ≡ false
unfolding count member
member-none x l h = any_none (λ y. eqb x y) l h

pub member-some : (x : ℕ) (l : List ℕ) → member x l ≡ false → count x l ≡ 0
unfolding count member
member-some x l h = none_any (λ y. eqb x y) l h

pub count-cons : (x y : ℕ) (l : List ℕ) → count x (y ∷ l) ≡ indicator (eqb x y) + count x l
unfolding count total
count-cons x y l = refl

pub indicator-le : (b : Bool) → indicator b ≤ 1
indicator-le true = le_refl 1
indicator-le false = zero-le

pub and_left : (a b : Bool) → a && b ≡ true → a ≡ true
and_left true b h = refl
and_left false b h = h

pub and_right : (a b : Bool) → a && b ≡ true → b ≡ true
and_right true b h = h
and_right false b h = absurd (false≢true h)

-- a list is distinct exactly where no number stands in it twice
pub distinct-once : (l : List ℕ) → distinct l ≡ true → (x : ℕ) → count x l ≤ 1
unfolding distinct
distinct-once [] h x = count-nil x
  where
    count-nil : (x : ℕ) → count x [] ≤ 1
    count-nil x = omega (arith, member-some x [] (member-nil x))
distinct-once (y ∷ l) h x =
    let later : count x l ≤ 1 = distinct-once l (and_right (not (member y l)) (distinct l) h) x in
    let here : count y l ≡ 0 = member-some y l (not-true (member y l) (and_left (not (member y l)) (distinct l) h)) in
    go later here (eqb x y) refl
  where
    go : count x l ≤ 1 → count y l ≡ 0 → (b : Bool) → eqb x y ≡ b → count x (y ∷ l) ≤ 1
    go p q true e = let z : x ≡ y = eqb-true x y e in rw z (omega (arith, count-cons y y l, indicator-le (eqb y y)))
    go p q false e = omega (arith, count-cons x y l, ap indicator e)

pub once-distinct : (l : List ℕ) → ((x : ℕ) → count x l ≤ 1) → distinct l ≡ true
unfolding distinct
once-distinct [] h = refl
once-distinct (y ∷ l) h =
    let z : count y l ≡ 0 = omega (arith, h y, count-cons y y l, ap indicator (eq-eqb y y refl)) in
    rw (member-none y l z) (once-distinct l (λ x. omega (arith, h x, count-cons x y l)))

pub same_counts-of : (a b : List ℕ) → ((x : ℕ) → count x a ≡ count x b) → same_counts a b ≡ true
unfolding same_counts
same_counts-of a b h = rw (equally_often-of a b h a, equally_often-of a b h b)

-- equal bags have equal counts: what a yes of `same_counts` says
pub equally_often-at : (a b l : List ℕ) (x : ℕ) → equally_often a b l ≡ true → 0 < count x l → count x a ≡ count x b
unfolding equally_often
equally_often-at a b [] x e h = absurd (omega (arith, member-some x [] (member-nil x)))
equally_often-at a b (y ∷ l) x e h =
    go (λ k. equally_often-at a b l x (and_right (eqb (count y a) (count y b)) (equally_often a b l) e) k) (eqb x y) refl
  where
    go : (0 < count x l → count x a ≡ count x b) → (t : Bool) → eqb x y ≡ t → count x a ≡ count x b
    go ih true q =
        let z : x ≡ y = eqb-true x y q in
        rw z (eqb-true (count y a) (count y b) (and_left (eqb (count y a) (count y b)) (equally_often a b l) e))
    go ih false q = ih (omega (arith, count-cons x y l, ap indicator q))

pub same_counts-to : (a b : List ℕ) → same_counts a b ≡ true → (x : ℕ) → count x a ≡ count x b
unfolding same_counts
same_counts-to a b e x = go (dec_lt 0 (count x a)) (dec_lt 0 (count x b))
  where
    go : Dec (0 < count x a) → Dec (0 < count x b) → count x a ≡ count x b
    go (yes p) q = equally_often-at a b a x (and_left (equally_often a b a) (equally_often a b b) e) p
    go (no p) (yes q) = equally_often-at a b b x (and_right (equally_often a b a) (equally_often a b b) e) q
    go (no p) (no q) = omega (arith, p, q)
