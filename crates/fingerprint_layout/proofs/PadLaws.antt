-- Lists in arrays, with zeros past them: their bytes are the list's bytes, and zeros past them. Assumes nothing.
use Prim.Native.Nat.{ℕ, zero, suc, ◌-◌, ◌*◌, ◌≤◌}
use mathlib.Core.Path.{◌≡◌, refl, ap, ◌∙◌}
use mathlib.Core.List.{List, [], ◌∷◌, ◌++◌, map, map-map, map-id, map-append, append-nil}
use native.Mathlib.Omega.{arith}
use lib.ListN.{length, replicate, length-append, length-replicate, length-map}
use Rattle.fingerprint_lists.specs.Arrays.{group, span, padded}
use Rattle.fingerprint_lists.specs.declared.Span.{Span}
use Rattle.fingerprint.specs.InRange.{group_number}
use Rattle.fingerprint_layout.specs.Layout.{little, littles, ranges}
use Rattle.fingerprint_layout.proofs.PieceLaws.{littles-append, length-littles}

pub length-padded : {A : Type 0} (m : ℕ) (z : A) (l : List A) → length l ≤ m → length (padded m z l) ≡ m
unfolding padded
length-padded m z l h = simp (length-append, length-replicate) (omega arith)

-- an array that is full
pub padded-full : (m : ℕ) (l : List ℕ) → length l ≡ m → padded m 0 l ≡ l
unfolding padded
padded-full m l h =
    let e : m - length l ≡ 0 = omega arith in
    rw e (append-nil l)

-- ---- numbers

zero-words : (k : ℕ) → littles 2 (replicate k 0) ≡ replicate (2 * k) 0
unfolding littles little
zero-words zero = refl
zero-words (suc k) =
    let e : suc (suc (2 * k)) ≡ 2 * suc k = omega arith in
    ap (λ (l : List ℕ). 0 ∷ 0 ∷ l) (zero-words k) ∙ ap (λ (n : ℕ). replicate {A = ℕ} n 0) e

pub words-padded : (m : ℕ) (l : List ℕ) → padded (2 * m) 0 (littles 2 l) ≡ littles 2 (padded m 0 l)
unfolding padded
words-padded m l =
    let e : 2 * m - length (littles 2 l) ≡ 2 * (m - length l) = omega (arith, length-littles 2 l) in
    rw (e, littles-append 2 l (replicate (m - length l) 0), zero-words (m - length l))

-- ---- ranges

pub length-ranges : (ss : List Span) → length (ranges ss) ≡ 2 * length ss
unfolding ranges
length-ranges [] = refl
length-ranges (s ∷ ss) = omega (arith, length-ranges ss)

ranges-append : (a b : List Span) → ranges (a ++ b) ≡ ranges a ++ ranges b
unfolding ranges
ranges-append [] b = refl
ranges-append (s ∷ a) b = ap (λ (l : List ℕ). s.start ∷ s.length ∷ l) (ranges-append a b)

zero-ranges : (k : ℕ) → ranges (replicate k (span 0 0)) ≡ replicate (2 * k) 0
unfolding ranges
zero-ranges zero = refl
zero-ranges (suc k) =
    let e : suc (suc (2 * k)) ≡ 2 * suc k = omega arith in
    ap (λ (l : List ℕ). 0 ∷ 0 ∷ l) (zero-ranges k) ∙ ap (λ (n : ℕ). replicate {A = ℕ} n 0) e

pub ranges-padded : (m : ℕ) (ss : List Span) → padded (2 * m) 0 (ranges ss) ≡ ranges (padded m (span 0 0) ss)
unfolding padded
ranges-padded m ss =
    let e : 2 * m - length (ranges ss) ≡ 2 * (m - length ss) = omega (arith, length-ranges ss) in
    rw (e, ranges-append ss (replicate (m - length ss) (span 0 0)), zero-ranges (m - length ss))

-- ---- groups

zero-groups : (k : ℕ) → map group_number (replicate k (group 0)) ≡ replicate k 0
zero-groups zero = refl
zero-groups (suc k) = ap (λ (l : List ℕ). 0 ∷ l) (zero-groups k)

pub group-numbers : (m : ℕ) (l : List ℕ) → map group_number (padded m (group 0) (map group l)) ≡ padded m 0 l
unfolding padded
group-numbers m l =
    map-append group_number (map group l) (replicate (m - length (map group l)) (group 0))
    ∙ rw (length-map l group, map-map group_number group l, zero-groups (m - length l)) (ap (λ (a : List ℕ). a ++ replicate (m - length l) 0) (map-id l))
