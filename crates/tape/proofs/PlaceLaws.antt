-- A shuffle of places is a shuffle of what stands there, and gives places. Assumes nothing.
use mathlib.Core.Path.{◌≡◌, refl, sym, ap, ◌∙◌}
use Prim.Native.Nat.{ℕ, zero, suc, ◌+◌, ◌-◌, ◌≤◌, ◌<◌}
use native.Mathlib.Nat.{le_of_suc-le-suc, not-suc-le-zero}
use native.Mathlib.Omega.{arith}
use mathlib.Core.List.{List, [], ◌∷◌, map}
use lib.ListN.{length, take, drop, get_or}
use lib.Seq.{drop-cons, take-length}
use Rattle.wire.specs.Sums.{total}
use Rattle.tape.specs.Tape.{shuffle}
use Rattle.tape.proofs.ShuffleLaws.{shuffle-permutes, length-shuffle, shuffle-default, shuffle-map}

-- the places i, i + 1, .. of which there are n
unfoldable pub upto : ℕ → ℕ → List ℕ
upto i zero = []
upto i (suc n) = i ∷ upto (suc i) n

pub length-upto : (i n : ℕ) → length (upto i n) ≡ n
unfolding upto
length-upto i zero = refl
length-upto i (suc n) = ap suc (length-upto (suc i) n)

pub map-upto : {A : Type 0} (d : A) (l : List A) (i n : ℕ) → i + n ≤ length l → map (λ j. get_or l j d) (upto i n) ≡ take n (drop i l)
unfolding upto
map-upto d l i zero h = refl
map-upto {A} d l i (suc n) h =
    rw (drop-cons l i d (omega arith)) (ap (λ (r : List A). get_or l i d ∷ r) (map-upto d l (suc i) n (omega arith)))

-- what stands at the shuffled places is the shuffled list
pub places-shuffle : {A : Type 0} (d : A) (l : List A) (tape : List ℕ) (at : ℕ)
    → map (λ j. get_or l j d) (shuffle 0 (upto 0 (length l)) tape at) ≡ shuffle d l tape at
places-shuffle {A} d l tape at =
    shuffle-map (λ j. get_or l j d) 0 (upto 0 (length l)) tape at
    ∙ shuffle-default (get_or l 0 d) d (map (λ j. get_or l j d) (upto 0 (length l))) tape at
    ∙ ap (λ (r : List A). shuffle d r tape at) (map-upto d l 0 (length l) (omega arith) ∙ take-length l)

-- how far x is from being below n; a sum of these is 0 where all are below n
abbrev excess : ℕ → ℕ → ℕ
excess n x = suc x - n

excess-upto : (n i k : ℕ) → i + k ≤ n → total (excess n) (upto i k) ≡ 0
unfolding total upto
excess-upto n i zero h = refl
excess-upto n i (suc k) h = omega (arith, excess-upto n (suc i) k (omega arith))

total-at : (f : ℕ → ℕ) (l : List ℕ) (j : ℕ) → j < length l → f (get_or l j 0) ≤ total f l
unfolding total
total-at f [] j h = absurd (not-suc-le-zero h)
total-at f (x ∷ l) zero h = omega arith
total-at f (x ∷ l) (suc j) h = omega (arith, total-at f l j (le_of_suc-le-suc h))

-- every shuffled place is a place
pub shuffle-within : (n : ℕ) (tape : List ℕ) (at : ℕ) → (j : ℕ) → j < n → get_or (shuffle 0 (upto 0 n) tape at) j 0 < n
shuffle-within n tape at j h =
    let s : List ℕ = shuffle 0 (upto 0 n) tape at in
    let long : length s ≡ n = length-shuffle 0 (upto 0 n) tape at ∙ length-upto 0 n in
    let none : total (excess n) s ≡ 0 = sym (shuffle-permutes 0 (upto 0 n) tape at (excess n)) ∙ excess-upto n 0 n (omega arith) in
    omega (arith, none, total-at (excess n) s j (omega arith))
