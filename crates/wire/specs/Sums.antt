-- Lists with their order put aside: sums, counts, repeats, and permutation as "every sum is the same".
use Rattle.std.specs.Prelude.{ℕ, ◌+◌, ◌≡◌, Bool, true, false, not, ◌&&◌, ◌||◌, List, [], ◌∷◌, set, get_or, eqb}

-- 1 for a test that holds
abbrev pub indicator : Bool → ℕ
indicator true = 1
indicator false = 0

-- the sum of f over a list
unfoldable pub total : {A : Type 0} → (A → ℕ) → List A → ℕ
total f [] = 0
total f (x ∷ xs) = f x + total f xs

-- b is a permutation of a: every sum over the two is the same, so is every count
abbrev pub Permutation : {A : Type 0} → List A → List A → Type 0
Permutation {A} a b = (f : A → ℕ) → total f a ≡ total f b

-- a list with places i and j exchanged
unfoldable pub swapped : {A : Type 0} → A → List A → ℕ → ℕ → List A
swapped d l i j = set (set l i (get_or l j d)) j (get_or l i d)

-- how often x stands in a list
unfoldable pub count : ℕ → List ℕ → ℕ
count x l = total (λ y. indicator (eqb x y)) l

-- whether a test holds of some element
unfoldable pub any : {A : Type 0} → (A → Bool) → List A → Bool
any q [] = false
any q (x ∷ xs) = q x || any q xs

unfoldable pub member : ℕ → List ℕ → Bool
member x l = any (λ y. eqb x y) l

-- no number stands in the list twice
unfoldable pub distinct : List ℕ → Bool
distinct [] = true
distinct (x ∷ xs) = not (member x xs) && distinct xs

-- each element of the third list is as often in the first as in the second
unfoldable pub equally_often : List ℕ → List ℕ → List ℕ → Bool
equally_often a b [] = true
equally_often a b (x ∷ xs) = eqb (count x a) (count x b) && equally_often a b xs

-- equal with order put aside and repeats counted
unfoldable pub same_counts : List ℕ → List ℕ → Bool
same_counts a b = equally_often a b a && equally_often a b b
