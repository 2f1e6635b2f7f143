-- Writing over the front of a buffer: stores, a copy's turn, and a part that is lent and given back. Assumes nothing.
use mathlib.Core.Path.{◌≡◌, refl, sym, ap, ◌∙◌}
use mathlib.Core.List.{List, [], ◌∷◌, ◌++◌, append_assoc, append-nil}
use Prim.Native.Nat.{ℕ, zero, suc, ◌+◌, ◌-◌, ◌≤◌, ◌<◌}
use native.Mathlib.Nat.{not-suc-le-zero, le_of_suc-le-suc}
use native.Mathlib.Numerals.{add-one}
use native.Mathlib.Omega.{arith}
use lib.ListN.{length, take, drop, set, get_or, replicate, length-append, length-drop, length-replicate, drop_of_length-le, take-append-drop}
use borrow.Rule.Slice.PartMut.{mid_of, post_of, put_mid}
use lib.Seq.{take_all, take_at, drop_at, drop-drop, length-take-le, sets, sets-eq}
use Rattle.wire.specs.Front.{front, front_at}

-- nothing written
pub front-none : (xs : List ℕ) → xs ≡ front [] xs
unfolding front
front-none xs = refl

pub length_front : (ys xs : List ℕ) → length ys ≤ length xs → length (front ys xs) ≡ length xs
unfolding front
length_front ys xs h = simp (length-append, length-drop) (omega arith)

-- what was written is read at the front
pub take-front : (ys xs : List ℕ) → take (length ys) (front ys xs) ≡ ys
unfolding front
take-front ys xs = take_at ys (drop (length ys) xs) (length ys) refl

-- stores one after the other from the front on, however many
pub stores : (ys xs : List ℕ) → length ys ≤ length xs → sets xs 0 ys ≡ front ys xs
unfolding front
stores ys xs h = let z : 0 + length ys ≡ length ys = omega arith in rw z at (sets-eq ys xs 0 (omega arith))

-- one more element of src, as a copy loop stores it
front-suc : (i : ℕ) (src xs : List ℕ) → i < length src → length src ≤ length xs → set (front (take i src) xs) i (get_or src i 0) ≡ front (take (suc i) src) xs
unfolding front
front-suc i [] xs h k = absurd (not-suc-le-zero h)
front-suc i (s ∷ src) [] h k = absurd (not-suc-le-zero k)
front-suc zero (s ∷ src) (x ∷ xs) h k = refl
front-suc (suc i) (s ∷ src) (x ∷ xs) h k = ap (λ (t : List ℕ). s ∷ t) (front-suc i src xs (le_of_suc-le-suc h) (le_of_suc-le-suc k))

pub front-more : (i : ℕ) (src xs : List ℕ) → i < length src → length src ≤ length xs → set (front (take i src) xs) i (get_or src i 0) ≡ front (take (i + 1) src) xs
front-more i src xs h k = rw add-one (front-suc i src xs h k)

-- a write over the front of the part that starts where the last one stopped
pub front-append : (acc ys xs : List ℕ) (n : ℕ) → length acc ≡ n → take n (front acc xs) ++ front ys (drop n (front acc xs)) ≡ front (acc ++ ys) xs
unfolding front
front-append acc ys xs n e =
    simp (take_at acc (drop (length acc) xs) n e, drop_at acc (drop (length acc) xs) n e, length-append, append_assoc, drop-drop)

-- a part `&mut out[n..]` that was lent, as the borrow checker gives it back
pub given_back : (n k : ℕ) (out part : List ℕ) → k ≡ length out - n → put_mid n k out part ≡ take n out ++ part
given_back n k out part d =
    let short : length (drop n out) ≤ k = simp length-drop (omega arith) in
    let none_after : post_of n k out ≡ [] = drop_of_length-le (drop n out) short in
    rw (none_after, append-nil)

lent : (n k : ℕ) (out : List ℕ) → k ≡ length out - n → mid_of n k out ≡ drop n out
lent n k out d = take_all k (drop n out) (simp length-drop (omega arith))

-- acc stands at the front; the part after it was lent, ys written over its front, and it came back
pub lent-front :
    (acc ys xs out part : List ℕ) (n k : ℕ) → length acc ≡ n → out ≡ front acc xs → k ≡ length out - n → part ≡ front ys (mid_of n k out)
    → put_mid n k out part ≡ front (acc ++ ys) xs
lent-front acc ys xs out part n k e o d p = rw (given_back n k out part d, p, lent n k out d, o) (front-append acc ys xs n e)

-- the same where nothing is known of what stands before the part
pub lent-front-at : (at k : ℕ) (ys xs part : List ℕ) → k ≡ length xs - at → part ≡ front ys (mid_of at k xs) → put_mid at k xs part ≡ front_at at ys xs
unfolding front_at
lent-front-at at k ys xs part d p = rw (given_back at k xs part d, p, lent at k xs d)

-- equal elements
pub front-replicate : (n v : ℕ) (xs : List ℕ) → replicate n v ++ drop n xs ≡ front (replicate n v) xs
unfolding front
front-replicate n v xs = rw length-replicate

-- ---- a whole that is written piece by piece: p elements of it stand, and what is left begins with the next piece a

module _ (w a r : List ℕ) (p : ℕ) (h : p ≤ length w) (e : drop p w ≡ a ++ r) where
  pub piece-drop : drop (p + length a) w ≡ r
  piece-drop = sym (drop-drop (length a) p w) ∙ rw e (drop_at a r (length a) refl)

  pub piece-length : p + length a + length r ≡ length w
  piece-length = omega (arith, length-drop p w, ap length e, length-append a r)

  pub piece-take : take (p + length a) w ≡ take p w ++ a
  piece-take =
      let whole : w ≡ (take p w ++ a) ++ r = sym (take-append-drop p w) ∙ rw (e, append_assoc) in
      let long : length (take p w ++ a) ≡ p + length a = rw (length-append, length-take-le p w h) in
      ap (λ (l : List ℕ). take (p + length a) l) whole ∙ take_at (take p w ++ a) r (p + length a) long

  -- the next piece was written to the part that starts where p elements stand
  pub piece-written :
      (xs out part : List ℕ) (k : ℕ) → out ≡ front (take p w) xs → k ≡ length out - p → part ≡ front a (mid_of p k out)
      → put_mid p k out part ≡ front (take (p + length a) w) xs
  piece-written xs out part k o d q =
      lent-front (take p w) a xs out part p k (length-take-le p w h) o d q ∙ ap (λ (l : List ℕ). front l xs) (sym piece-take)
