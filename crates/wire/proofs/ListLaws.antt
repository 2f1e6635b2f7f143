-- Laws of lists and numbers that more than one crate cites. Assumes nothing.
use Prim.Native.Nat.{ℕ, zero, suc, ◌-◌, ◌≤◌, ◌<◌}
use mathlib.Core.Path.{◌≡◌, refl, ap}
use mathlib.Core.Logic.{◌⊎◌, inl, inr, ⊎_elim}
use mathlib.Core.List.{List, [], ◌∷◌, map}
use native.Mathlib.Nat.{not-suc-le-zero, le_of_suc-le-suc, le_refl}
use native.Mathlib.Omega.{arith}
use lib.ListN.{length, take, drop, set, get_or, length-drop}
use lib.Seq.{take_all, length-take-le}

pub lt-or-le : (a b : ℕ) → (a < b) ⊎ (b ≤ a)
lt-or-le a zero = inr (omega arith)
lt-or-le zero (suc b) = inl (omega arith)
lt-or-le (suc a) (suc b) = ⊎_elim (λ p. inl (omega arith)) (λ q. inr (omega arith)) (lt-or-le a b)

-- a rule of a table of four, from its four entries
pub at-four : (P : ℕ → Type 0) → P 0 → P 1 → P 2 → P 3 → (i : ℕ) → i < 4 → P i
at-four P a b c d zero h = a
at-four P a b c d (suc zero) h = b
at-four P a b c d (suc (suc zero)) h = c
at-four P a b c d (suc (suc (suc zero))) h = d
at-four P a b c d (suc (suc (suc (suc i)))) h = absurd (omega arith)

module _ {A : Type 0} where
  -- the part `&s[a..]`, as the borrow checker has it
  pub part_to_end : (s : List A) (a : ℕ) → take (length s - a) (drop a s) ≡ drop a s
  part_to_end s a = take_all (length s - a) (drop a s) (rw length-drop (le_refl (length s - a)))

  pub length-part-to-end : (s : List A) (a : ℕ) → length (take (length s - a) (drop a s)) ≡ length s - a
  length-part-to-end s a = rw part_to_end (length-drop a s)

  -- the part `&s[a..e]`
  pub length_part : (s : List A) (a e : ℕ) → a ≤ e → e ≤ length s → length (take (e - a) (drop a s)) ≡ e - a
  length_part s a e h k = length-take-le (e - a) (drop a s) (rw length-drop (omega arith))

  -- a store, seen from the place stored to
  pub drop-set-here : (s : List A) (k : ℕ) (a : A) → k < length s → drop k (set s k a) ≡ a ∷ drop (suc k) s
  drop-set-here [] k a h = absurd (not-suc-le-zero h)
  drop-set-here (x ∷ s) zero a h = refl
  drop-set-here (x ∷ s) (suc k) a h = drop-set-here s k a (le_of_suc-le-suc h)

  -- below its length, what a list holds does not depend on the default
  pub get_or-any-default : (l : List A) (i : ℕ) (d e : A) → i < length l → get_or l i d ≡ get_or l i e
  get_or-any-default [] i d e h = absurd (not-suc-le-zero h)
  get_or-any-default (x ∷ l) zero d e h = refl
  get_or-any-default (x ∷ l) (suc i) d e h = get_or-any-default l i d e (le_of_suc-le-suc h)

-- ---- the first so many places of an array, each read by a function

pub map-take : {A B : Type 0} (f : A → B) (n : ℕ) (l : List A) → map f (take n l) ≡ take n (map f l)
map-take f zero l = refl
map-take f (suc n) [] = refl
map-take {B = B} f (suc n) (x ∷ l) = ap (λ (r : List B). f x ∷ r) (map-take f n l)
