-- Tests and searches, one element at a time. Assumes nothing.
use Rattle.std.proofs.Common.{◌≡◌, ℕ, zero, suc, ◌+◌, ◌<◌, ◌≤◌, Bool, true, false, cond, not, ◌&&◌, eqb, leb, ltb, ltb-true, ltb-false, List, [], ◌∷◌, length, get_or, drop, refl, ⊎_elim, le_of_suc-le-suc, not-suc-le-zero, add-one, arith, length-drop, drop_of_length-le, drop-cons, le-leb, le-ltb, lt-ltb, eq-eqb, ne_eqb}
use Rattle.std.specs.List.{position_or_len, position}
use Rattle.std.specs.Prelude.{Option, Some, None}
use Rattle.std.specs.Option.{unwrap_or}
use Rattle.wire.proofs.ListLaws.{lt-or-le}
use borrow.Author.Tests.{lt-leb}
use Rattle.wire.proofs.SumLaws.{and_left, and_right}
use Rattle.script.specs.Scan.{among, all, is_only, begins, distance, find_of, found_of, Found}

pub and-true : (a b : Bool) → a ≡ true → b ≡ true → a && b ≡ true
and-true a b p q = rw (p, q)

pub and-not-left : (a b : Bool) → a ≡ false → a && b ≡ false
and-not-left a b p = rw p

pub and-not-right : (a b : Bool) → b ≡ false → a && b ≡ false
and-not-right true b p = p
and-not-right false b p = refl

-- ---- a range

pub among_in : (low high b : ℕ) → low ≤ b → b ≤ high → among low high b ≡ true
among_in low high b h k = and-true (leb low b) (leb b high) (le-leb low b h) (le-leb b high k)

pub among_below : (low high b : ℕ) → b < low → among low high b ≡ false
among_below low high b h = and-not-left (leb low b) (leb b high) (lt-leb low b h)

pub among-above : (low high b : ℕ) → high < b → among low high b ≡ false
among-above low high b h = and-not-right (leb low b) (leb b high) (lt-leb b high h)

-- ---- every element, from place i on

module _ (q : ℕ → Bool) (s : List ℕ) (i : ℕ) where
  pub all-fails : i < length s → q (get_or s i 0) ≡ false → all q (drop i s) ≡ false
  all-fails h e = rw (drop-cons s i 0 h, e)

  pub all-next : i < length s → q (get_or s i 0) ≡ true → all q (drop i s) ≡ all q (drop (i + 1) s)
  all-next h e = rw (add-one, drop-cons s i 0 h, e)

  pub all_end : length s ≤ i → all q (drop i s) ≡ true
  all_end h = rw (drop_of_length-le s h)

pub all-at : (q : ℕ → Bool) (s : List ℕ) (i : ℕ) → i < length s → all q s ≡ true → q (get_or s i 0) ≡ true
all-at q [] i h e = absurd (not-suc-le-zero h)
all-at q (x ∷ s) zero h e = and_left (q x) (all q s) e
all-at q (x ∷ s) (suc i) h e = all-at q s i (le_of_suc-le-suc h) (and_right (q x) (all q s) e)

-- ---- a search, from a place on

module _ (b : ℕ) (s : List ℕ) (i : ℕ) where
  pub distance-here : i < length s → get_or s i 0 ≡ b → distance b (drop i s) ≡ 0
  unfolding distance
  distance-here h e = rw (drop-cons s i 0 h, eq-eqb (get_or s i 0) b e)

  pub distance_next : i < length s → (get_or s i 0 ≡ b → ⊥) → distance b (drop i s) ≡ suc (distance b (drop (i + 1) s))
  unfolding distance
  distance_next h e = rw (add-one, drop-cons s i 0 h, ne_eqb (get_or s i 0) b e)

  pub distance-end : length s ≤ i → distance b (drop i s) ≡ 0
  unfolding distance
  distance-end h = rw (drop_of_length-le s h)

pub distance-le : (b : ℕ) (s : List ℕ) → distance b s ≤ length s
unfolding distance
distance-le b [] = omega arith
distance-le b (x ∷ s) = go (eqb x b) (distance-le b s)
  where
    go : (t : Bool) → distance b s ≤ length s → cond t 0 (suc (distance b s)) ≤ suc (length s)
    go true h = omega arith
    go false h = omega arith

-- what holds of a place that a search gives
pub found : (s : List ℕ) (from b r : ℕ) → r ≡ from + distance b (drop from s) → Found (find_of s from b) s from r
unfolding find_of
found s from b r e =
    record { is = e; least = omega arith; most = omega (arith, distance-le b (drop from s), length-drop from s) }

-- where a search finds its byte, and where there is none
module _ (s : List ℕ) (from b : ℕ) where
  pub found-past : length s ≤ from → None ≡ found_of s from b
  unfolding find_of
  found-past h = rw (le-ltb (from + distance b (drop from s)) (length s) (omega arith))

  pub found_some : (n : ℕ) → n ≡ distance b (drop from s) → from + n < length s → Some (from + n) ≡ found_of s from b
  unfolding find_of
  found_some n e h = rw (← e, lt-ltb (from + n) (length s) h)

  pub found_none : length (drop from s) ≡ distance b (drop from s) → None ≡ found_of s from b
  unfolding find_of
  found_none e = rw (le-ltb (from + distance b (drop from s)) (length s) (omega (arith, e, length-drop from s)))

  -- the answer again, as a place
  pub place-some : (n : ℕ) → Some n ≡ found_of s from b → (n ≡ find_of s from b) × (n < length s)
  place-some n e = go (ltb (find_of s from b) (length s)) refl e
    where
      go : (t : Bool) → ltb (find_of s from b) (length s) ≡ t → Some n ≡ cond t (Some (find_of s from b)) None → (n ≡ find_of s from b) × (n < length s)
      go true p h = let q : n ≡ find_of s from b = cc in (q, omega (arith, q, ltb-true (find_of s from b) (length s) p))
      go false p h = cc

  pub place-none : ◌≡◌ {A = Option ℕ} None (found_of s from b) → length s ≤ find_of s from b
  place-none e = go (ltb (find_of s from b) (length s)) refl e
    where
      go : (t : Bool) → ltb (find_of s from b) (length s) ≡ t → ◌≡◌ {A = Option ℕ} None (cond t (Some (find_of s from b)) None) → length s ≤ find_of s from b
      go true p h = cc
      go false p h = ltb-false (find_of s from b) (length s) p

  pub find-least : from ≤ find_of s from b
  unfolding find_of
  find-least = omega arith

  -- up to the end at most
  pub find-most : from ≤ length s → find_of s from b ≤ length s
  unfolding find_of
  find-most h = omega (arith, distance-le b (drop from s), length-drop from s)

  -- the place, or the end where there is none
  pub find-or : from ≤ length s → unwrap_or (found_of s from b) (length s) ≡ find_of s from b
  find-or h =
      ⊎_elim (λ p. rw (lt-ltb (find_of s from b) (length s) p)) (λ q. rw (le-ltb (find_of s from b) (length s) q) (omega (arith, find-most h)))
      (lt-or-le (find_of s from b) (length s))

-- ---- one byte, and a first byte

pub only_one : (b : ℕ) (s : List ℕ) → length s ≡ 1 → is_only b s ≡ eqb (get_or s 0 0) b
unfolding is_only
only_one b [] h = absurd (omega arith)
only_one b (x ∷ []) h = refl
only_one b (x ∷ y ∷ s) h = absurd (omega arith)

pub only_first : (b : ℕ) (s : List ℕ) → length s ≡ 1 → get_or s 0 0 ≡ b → is_only b s ≡ true
unfolding is_only
only_first b [] h e = absurd (omega arith)
only_first b (x ∷ []) h e = eq-eqb x b e
only_first b (x ∷ y ∷ s) h e = absurd (omega arith)

pub only-other : (b : ℕ) (s : List ℕ) → (length s ≡ 1 → get_or s 0 0 ≡ b → ⊥) → is_only b s ≡ false
unfolding is_only
only-other b [] h = refl
only-other b (x ∷ []) h = ne_eqb x b (h refl)
only-other b (x ∷ y ∷ s) h = refl

pub only-not : (b : ℕ) (s : List ℕ) → (length s ≡ 1 → ⊥) → is_only b s ≡ false
only-not b s h = only-other b s (λ e p. h e)

pub begins-first : (b : ℕ) (s : List ℕ) → 0 < length s → begins b s ≡ eqb (get_or s 0 0) b
unfolding begins
begins-first b [] h = absurd (not-suc-le-zero h)
begins-first b (x ∷ s) h = refl

pub begins_first : (b : ℕ) (s : List ℕ) → 0 < length s → get_or s 0 0 ≡ b → begins b s ≡ true
unfolding begins
begins_first b [] h e = absurd (not-suc-le-zero h)
begins_first b (x ∷ s) h e = eq-eqb x b e

pub begins-not : (b : ℕ) (s : List ℕ) → (0 < length s → get_or s 0 0 ≡ b → ⊥) → begins b s ≡ false
unfolding begins
begins-not b [] h = refl
begins-not b (x ∷ s) h = ne_eqb x b (h (omega arith))

-- ---- the library's word for the same: `position` of an iterator

pub position_is : (b : ℕ) (s : List ℕ) → position_or_len (λ x. eqb x b) s ≡ distance b s
unfolding distance
position_is b [] = refl
position_is b (x ∷ s) = go (eqb x b) (position_is b s)
  where
    go : (t : Bool) → position_or_len (λ x. eqb x b) s ≡ distance b s → cond (not t) (1 + position_or_len (λ x. eqb x b) s) 0 ≡ cond t 0 (suc (distance b s))
    go true h = refl
    go false h = rw h (omega arith)

-- where there is such an element, its place; else the distance is the length
pub position-some : (b : ℕ) (s : List ℕ) (n : ℕ) → Some n ≡ position (λ x. eqb x b) s → (n ≡ distance b s) × (n < length s)
position-some b s n e = rw (← position_is b s) (go (ltb (position_or_len (λ x. eqb x b) s) (length s)) refl e)
  where
    go : (t : Bool) → ltb (position_or_len (λ x. eqb x b) s) (length s) ≡ t → Some n ≡ cond t (Some (position_or_len (λ x. eqb x b) s)) None
        → (n ≡ position_or_len (λ x. eqb x b) s) × (n < length s)
    go true p h = let q : n ≡ position_or_len (λ x. eqb x b) s = cc in (q, omega (arith, ltb-true (position_or_len (λ x. eqb x b) s) (length s) p))
    go false p h = cc

pub position-none : (b : ℕ) (s : List ℕ) → ◌≡◌ {A = Option ℕ} None (position (λ x. eqb x b) s) → length s ≡ distance b s
position-none b s e =
    omega (arith, distance-le b s, position_is b s, go (ltb (position_or_len (λ x. eqb x b) s) (length s)) refl e)
  where
    go : (t : Bool) → ltb (position_or_len (λ x. eqb x b) s) (length s) ≡ t → ◌≡◌ {A = Option ℕ} None (cond t (Some (position_or_len (λ x. eqb x b) s)) None)
        → length s ≤ position_or_len (λ x. eqb x b) s
    go true p h = cc
    go false p h = ltb-false (position_or_len (λ x. eqb x b) s) (length s) p

-- the place, or the length where there is none
pub position-or : (b : ℕ) (s : List ℕ) → unwrap_or (position (λ x. eqb x b) s) (length s) ≡ distance b s
position-or b s =
    rw (position_is b s)
    (⊎_elim (λ p. rw (lt-ltb (distance b s) (length s) p)) (λ q. rw (le-ltb (distance b s) (length s) q) (omega (arith, distance-le b s)))
    (lt-or-le (distance b s) (length s)))
