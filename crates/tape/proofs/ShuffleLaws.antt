-- A shuffle is a permutation: what holds of all elements holds after it, and it can be seen through a function. Assumes nothing.
use mathlib.Core.Path.{◌≡◌, refl, sym, ap, ◌∙◌}
use Prim.Native.Nat.{ℕ, zero, suc, ◌+◌, ◌-◌, ◌%◌, ◌≤◌, ◌<◌}
use native.Mathlib.Nat.{not-suc-le-zero, mod-lt, zero-lt-suc}
use native.Mathlib.Numerals.{add-one}
use native.Mathlib.Omega.{arith}
use mathlib.Core.List.{List, [], ◌∷◌, map}
use native.Mathlib.Decide.{ℕ_discrete}
use lib.ListN.{length, set, get_or, length-set, length-map, get_or-map}
use lib.Seq.{get_or-set_same, get_or-set_other}
use Rattle.std.specs.List.{swap, All}
use Rattle.wire.specs.Sums.{Permutation, swapped}
use Rattle.wire.proofs.ListLaws.{get_or-any-default}
use Rattle.wire.proofs.SumLaws.{length-swapped, swapped-permutes, length-permutes}
use Rattle.tape.specs.Tape.{next_u64, remainders, swaps, shuffle}

-- a remainder for place i + 1 is at most i + 1
remainder-within : (x i : ℕ) → x % suc (suc i) ≤ suc i
remainder-within x i = omega (arith, mod-lt x {m = suc (suc i)} (zero-lt-suc (suc i)))

module _ {A : Type 0} where
  -- the swaps for the places i + 1, i, .. 1: the first, then the others
  swaps-next : (d : A) (i : ℕ) (l : List A) (tape : List ℕ) (at : ℕ)
      → swaps d (suc i) l (remainders (suc i) tape at)
      ≡ swaps d i (swapped d l (suc i) (next_u64 tape at % suc (suc i))) (remainders i tape (at + 8))
  unfolding swaps remainders
  swaps-next d i l tape at = rw (add-one (suc i))

  swaps-none : (d : A) (l : List A) (tape : List ℕ) (at : ℕ) → swaps d 0 l (remainders 0 tape at) ≡ l
  unfolding swaps remainders
  swaps-none d l tape at = refl

  swaps-permutes : (d : A) (i : ℕ) (l : List A) (tape : List ℕ) (at : ℕ) → i < length l → Permutation l (swaps d i l (remainders i tape at))
  swaps-permutes d zero l tape at h f = rw (swaps-none d l tape at)
  swaps-permutes d (suc i) l tape at h f =
      let r : ℕ = next_u64 tape at % suc (suc i) in
      let k : r ≤ suc i = remainder-within (next_u64 tape at) i in
      rw (swaps-next d i l tape at)
      (swapped-permutes d l (suc i) r h (omega arith) f
      ∙ swaps-permutes d i (swapped d l (suc i) r) tape (at + 8) (omega (arith, length-swapped d l (suc i) r)) f)

  pub shuffle-permutes : (d : A) (l : List A) (tape : List ℕ) (at : ℕ) → Permutation l (shuffle d l tape at)
  unfolding shuffle
  shuffle-permutes d [] tape at f = rw (swaps-none d [] tape at)
  shuffle-permutes d (x ∷ l) tape at f =
      let e : suc (length l) - 1 ≡ length l = omega arith in
      rw e (swaps-permutes d (length l) (x ∷ l) tape at (omega arith) f)

  pub length-shuffle : (d : A) (l : List A) (tape : List ℕ) (at : ℕ) → length (shuffle d l tape at) ≡ length l
  length-shuffle d l tape at = sym (length-permutes l (shuffle d l tape at) (shuffle-permutes d l tape at))

  -- a turn of the loop, and its end
  pub shuffle-turn : (d : A) (l : List A) (tape : List ℕ) (at i : ℕ) → 1 < i
      → swaps d (i - 1) l (remainders (i - 1) tape at)
      ≡ swaps d (i - 1 - 1) (swapped d l (i - 1) (next_u64 tape at % (i - 1 + 1))) (remainders (i - 1 - 1) tape (at + 8))
  shuffle-turn d l tape at zero h = absurd (omega arith)
  shuffle-turn d l tape at (suc zero) h = absurd (omega arith)
  shuffle-turn d l tape at (suc (suc i)) h =
      let a : suc (suc i) - 1 ≡ suc i = omega arith in
      let b : suc i - 1 ≡ i = omega arith in
      rw (a, b, add-one (suc i)) (swaps-next d i l tape at)

  pub shuffle-ends : (d : A) (l : List A) (tape : List ℕ) (at i : ℕ) → i ≤ 1 → swaps d (i - 1) l (remainders (i - 1) tape at) ≡ l
  shuffle-ends d l tape at i h = let e : i - 1 ≡ 0 = omega arith in rw e (swaps-none d l tape at)

  -- what stands for a missing place plays no part
  swapped-default : (d e : A) (l : List A) (i j : ℕ) → i < length l → j < length l → swapped d l i j ≡ swapped e l i j
  unfolding swapped
  swapped-default d e l i j h k = rw (get_or-any-default l j d e k, get_or-any-default l i d e h)

  -- what `swap` of a slice does
  pub swap-is : (d : A) (l : List A) (i j : ℕ) → i < length l → j < length l → swap l i j ≡ swapped d l i j
  unfolding swapped
  swap-is d [] i j h k = absurd (not-suc-le-zero h)
  swap-is d (x ∷ l) i j h k = swapped-default x d (x ∷ l) i j h k

  swaps-default : (d e : A) (i : ℕ) (l : List A) (tape : List ℕ) (at : ℕ) → i < length l
      → swaps d i l (remainders i tape at) ≡ swaps e i l (remainders i tape at)
  swaps-default d e zero l tape at h = rw (swaps-none d l tape at, swaps-none e l tape at)
  swaps-default d e (suc i) l tape at h =
      let r : ℕ = next_u64 tape at % suc (suc i) in
      let k : r ≤ suc i = remainder-within (next_u64 tape at) i in
      rw (swaps-next d i l tape at, swaps-next e i l tape at, swapped-default d e l (suc i) r h (omega arith))
      (swaps-default d e i (swapped e l (suc i) r) tape (at + 8) (omega (arith, length-swapped e l (suc i) r)))

  pub shuffle-default : (d e : A) (l : List A) (tape : List ℕ) (at : ℕ) → shuffle d l tape at ≡ shuffle e l tape at
  unfolding shuffle
  shuffle-default d e [] tape at = rw (swaps-none d [] tape at, swaps-none e [] tape at)
  shuffle-default d e (x ∷ l) tape at =
      let q : suc (length l) - 1 ≡ length l = omega arith in
      rw q (swaps-default d e (length l) (x ∷ l) tape at (omega arith))

-- ---- a property of the elements

module _ {A : Type 0} (P : A → Type 0) (d : A) where
  swapped-keeps : (l : List A) (i j : ℕ) → i < length l → j < length l → All P l → All P (swapped d l i j)
  unfolding swapped
  swapped-keeps l i j h k all n e m = go (ℕ_discrete n j) (ℕ_discrete n i)
    where
      first : List A
      first = set l i (get_or l j d)

      long : length first ≡ length l
      long = length-set l i (get_or l j d)

      below : n < length l
      below = omega (arith, m, long, length-set first j (get_or l i d))

      go : Dec (n ≡ j) → Dec (n ≡ i) → P (get_or (set first j (get_or l i d)) n e)
      go (yes p) q = rw (p, get_or-set_same first j (get_or l i d) e (omega (arith, long))) (all i d h)
      go (no p) (yes q) = rw (get_or-set_other first j n (get_or l i d) e p, q, get_or-set_same l i (get_or l j d) e h) (all j d k)
      go (no p) (no q) = rw (get_or-set_other first j n (get_or l i d) e p, get_or-set_other l i n (get_or l j d) e q) (all n e below)

  swaps-keeps : (i : ℕ) (l : List A) (tape : List ℕ) (at : ℕ) → i < length l → All P l → All P (swaps d i l (remainders i tape at))
  swaps-keeps zero l tape at h all = rw (swaps-none d l tape at) all
  swaps-keeps (suc i) l tape at h all =
      let r : ℕ = next_u64 tape at % suc (suc i) in
      let k : r ≤ suc i = remainder-within (next_u64 tape at) i in
      rw (swaps-next d i l tape at)
      (swaps-keeps i (swapped d l (suc i) r) tape (at + 8) (omega (arith, length-swapped d l (suc i) r)) (swapped-keeps l (suc i) r h (omega arith) all))

  pub shuffle-keeps : (l : List A) (tape : List ℕ) (at : ℕ) → All P l → All P (shuffle d l tape at)
  unfolding shuffle
  shuffle-keeps [] tape at all = rw (swaps-none d [] tape at) all
  shuffle-keeps (x ∷ l) tape at all =
      let e : suc (length l) - 1 ≡ length l = omega arith in
      rw e (swaps-keeps (length l) (x ∷ l) tape at (omega arith) all)

-- ---- a function of the elements

module _ {A B : Type 0} (f : A → B) where
  map-set : (l : List A) (i : ℕ) (v : A) → map f (set l i v) ≡ set (map f l) i (f v)
  map-set [] i v = refl
  map-set (x ∷ l) zero v = refl
  map-set (x ∷ l) (suc i) v = ap (λ (r : List B). f x ∷ r) (map-set l i v)

  swapped-map : (d : A) (l : List A) (i j : ℕ) → map f (swapped d l i j) ≡ swapped (f d) (map f l) i j
  unfolding swapped
  swapped-map d l i j = rw (map-set (set l i (get_or l j d)) j (get_or l i d), map-set l i (get_or l j d), get_or-map f l i d, get_or-map f l j d)

  swaps-map : (d : A) (i : ℕ) (l : List A) (rs : List ℕ) → map f (swaps d i l rs) ≡ swaps (f d) i (map f l) rs
  unfolding swaps
  swaps-map d zero l rs = refl
  swaps-map d (suc j) l [] = refl
  swaps-map d (suc j) l (r ∷ rs) =
      swaps-map d j (swapped d l (suc j) r) rs ∙ ap (λ (m : List B). swaps (f d) j m rs) (swapped-map d l (suc j) r)

  pub shuffle-map : (d : A) (l : List A) (tape : List ℕ) (at : ℕ) → map f (shuffle d l tape at) ≡ shuffle (f d) (map f l) tape at
  unfolding shuffle
  shuffle-map d l tape at = rw (length-map l f) (swaps-map d (length l - 1) l (remainders (length l - 1) tape at))
