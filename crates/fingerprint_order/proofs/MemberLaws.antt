-- Numbers in a list: whether one stands in it, how often, and whether any stands twice. Assumes nothing.
use Rattle.std.proofs.Common.{◌≡◌, ℕ, ◌+◌, ◌-◌, ◌<◌, Bool, true, false, eqb, List, [], ◌∷◌, ◌++◌, length, get_or, take, drop, sym, refl, ◌∙◌, ⊎_elim, true≢false, add-one, arith, take-suc, take-add, eq-eqb, ne_eqb}
use Rattle.wire.specs.Sums.{indicator, count, any, member, distinct}
use Rattle.wire.proofs.SumLaws.{count-append, count-cons, member-nil, member-none, member-some, distinct-once}
use Rattle.wire.proofs.ListLaws.{lt-or-le}

-- ---- the first number of a list

pub member-first : (x y : ℕ) (l : List ℕ) → x ≡ y → member x (y ∷ l) ≡ true
unfolding member any
member-first x y l e = rw (eq-eqb x y e)

pub member-later : (x y : ℕ) (l : List ℕ) → (x ≡ y → ⊥) → member x (y ∷ l) ≡ member x l
unfolding member any
member-later x y l e = rw (ne_eqb x y e)

pub distinct_nil : distinct [] ≡ true
unfolding distinct
distinct_nil = refl

pub distinct-not : (x : ℕ) (l : List ℕ) → member x l ≡ true → distinct (x ∷ l) ≡ false
unfolding distinct
distinct-not x l e = rw e

pub distinct-later : (x : ℕ) (l : List ℕ) → member x l ≡ false → distinct (x ∷ l) ≡ distinct l
unfolding distinct
distinct-later x l e = rw e

-- ---- how often a number stands

pub member-counted : (x : ℕ) (l : List ℕ) → member x l ≡ true → 0 < count x l
member-counted x l e = ⊎_elim (λ p. p) (λ q. absurd (true≢false (sym e ∙ member-none x l (omega arith)))) (lt-or-le 0 (count x l))

pub count-one : (x y : ℕ) → count x (y ∷ []) ≡ indicator (eqb x y)
count-one x y = omega (arith, count-cons x y [], member-some x [] (member-nil x))

-- ---- place i of a list

module _ (l : List ℕ) (i : ℕ) (h : i < length l) where
  pub one_more : take (i + 1) l ≡ take i l ++ (get_or l i 0 ∷ [])
  one_more = rw (add-one i) (take-suc l i 0 h)

  -- the number stands before its place too, so it stands twice among the first n
  pub new-not : (n : ℕ) → i < n → member (get_or l i 0) (take i l) ≡ true → distinct (take n l) ≡ false
  new-not n k m = go (distinct (take n l)) refl
    where
      go : (t : Bool) → distinct (take n l) ≡ t → t ≡ false
      go false e = refl
      go true e =
          let x = get_or l i 0 in
          let z : i + 1 + (n - (i + 1)) ≡ n = omega arith in
          let more : take n l ≡ take (i + 1) l ++ take (n - (i + 1)) (drop (i + 1) l) = rw z at (take-add (i + 1) (n - (i + 1)) l) in
          let twice : count x (take n l) ≡ count x (take i l) + 1 + count x (take (n - (i + 1)) (drop (i + 1) l)) =
          rw (more, one_more, count-append, count-append, count-one x x, eq-eqb x x refl) in
          absurd (omega (arith, twice, member-counted x (take i l) m, distinct-once (take n l) e x))
