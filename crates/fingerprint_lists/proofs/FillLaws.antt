-- Filling an array with a list's entries, one after the other: what a loop keeps. Assumes nothing.
use Prim.Native.Nat.{ℕ, suc, ◌+◌, ◌-◌, ◌≤◌, ◌<◌}
use mathlib.Core.Path.{◌≡◌, refl, sym, ap, ◌∙◌}
use mathlib.Core.List.{List, [], ◌∷◌, ◌++◌, append-nil}
use native.Mathlib.Omega.{arith}
use native.Mathlib.Numerals.{add-one}
use native.Mathlib.Nat.{sub-zero}
use lib.ListN.{length, take, drop, set, get_or, replicate, length-drop, length-append}
use lib.Seq.{take-suc, drop-cons, take_all, set_at, append_snoc, length-take-le}
use Rattle.fingerprint_lists.specs.Arrays.{padded}

-- k entries of p stand in the array; rest is still to come
pub record Filled {A : Type 0} (m : ℕ) (z : A) (p : List A) (k : ℕ) (items rest : List A) : Type 0 where
  pub within : k ≤ length p
  pub is : items ≡ padded m z (take k p)
  pub left : drop k p ≡ rest

module _ {A : Type 0} (m : ℕ) (z : A) where
  pub padded-none : padded m z [] ≡ replicate m z
  unfolding padded
  padded-none = rw (sub-zero m)

  -- the first place after the list takes one more
  pub padded-set : (l : List A) (a : A) → length l < m → set (padded m z l) (length l) a ≡ padded m z (l ++ (a ∷ []))
  unfolding padded
  padded-set l a h =
      let e : m - length l ≡ suc (m - length (l ++ (a ∷ []))) = omega (arith, length-append l (a ∷ [])) in
      rw (e, set_at l z (replicate (m - length (l ++ (a ∷ []))) z) a (length l) refl) (sym (append_snoc l a (replicate (m - length (l ++ (a ∷ []))) z)))

  pub filled-start : {p rest : List A} → p ≡ rest → Filled m z p 0 (replicate m z) rest
  filled-start e = record { within = omega arith; is = sym padded-none; left = e }

module _ {A : Type 0} {m : ℕ} {z : A} {p : List A} {k : ℕ} {items rest : List A} (f : Filled m z p k items rest) where
  -- a turn of the loop: a is the first of the rest
  module _ {a : A} {r : List A} (e : rest ≡ a ∷ r) (few : length p ≤ m) where
    there : k < length p
    there = omega (arith, length-drop k p, ap length (f.left ∙ e))

    pub filled-room : k < m
    filled-room = omega (arith, there)

    split : get_or p k a ∷ drop (suc k) p ≡ a ∷ r
    split = sym (drop-cons p k a there) ∙ f.left ∙ e

    taken : take (k + 1) p ≡ take k p ++ (a ∷ [])
    taken =
        let q = split in
        let v : get_or p k a ≡ a = cc in
        rw (add-one k, take-suc p k a there, v)

    rest-is : drop (k + 1) p ≡ r
    rest-is =
        let q = split in
        let v : drop (suc k) p ≡ r = cc in
        rw (add-one k) v

    stored : set items k a ≡ padded m z (take (k + 1) p)
    stored =
        let l : length (take k p) ≡ k = length-take-le k p f.within in
        rw (f.is, taken)
        (ap (λ (j : ℕ). set (padded m z (take k p)) j a) (sym l) ∙ padded-set m z (take k p) a (omega (arith, l, filled-room)))

    pub filled_next : Filled m z p (k + 1) (set items k a) r
    filled_next = record { within = omega (arith, there); is = stored; left = rest-is }

  module _ (e : rest ≡ []) where
    pub filled-count : k ≡ length p
    filled-count = omega (arith, length-drop k p, ap length (f.left ∙ e), f.within)

    pub filled-end : items ≡ padded m z p
    filled-end = f.is ∙ ap (λ (l : List A). padded m z l) (take_all k p (omega (arith, filled-count)))

-- a loop over a list's places: what is left at one, and at the next
pub items-next : {A : Type 0} (items : List A) (i : ℕ) (d : A) → i < length items → drop i items ≡ get_or items i d ∷ drop (i + 1) items
items-next items i d h = rw (add-one i) (drop-cons items i d h)

-- a list that fills the array
pub padded-full : {A : Type 0} (m : ℕ) (z : A) (l : List A) → length l ≡ m → padded m z l ≡ l
unfolding padded
padded-full m z l e =
    let none : m - length l ≡ 0 = omega (arith, e) in
    rw none (append-nil l)
