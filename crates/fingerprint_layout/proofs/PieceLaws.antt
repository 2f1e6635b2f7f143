-- A list written item by item, each in as many bytes as the others: what a loop keeps. Assumes nothing.
use Prim.Native.Nat.{ℕ, zero, suc, ◌+◌, ◌*◌, ◌/◌, ◌≤◌}
use mathlib.Core.Path.{◌≡◌, refl, sym, ap, ◌∙◌}
use mathlib.Core.List.{List, [], ◌∷◌, ◌++◌, map, map-id, append_assoc, append-nil}
use native.Mathlib.Nat.{mul-zero, mul-add}
use native.Mathlib.Omega.{arith}
use lib.ListN.{length, length-append}
use Rattle.wire.specs.Front.{front}
use Rattle.wire.proofs.ListLaws.{length-part-to-end}
use Rattle.wire.proofs.Writing.{lent_from, back_from, Writing, begins, rest-is, filled, next-room, writes, finished, put_as, place-within, same_length}
use Rattle.fingerprint_lists.specs.declared.Span.{Span}
use Rattle.fingerprint_layout.specs.Layout.{little, littles, ranges}

pub length-little : (n v : ℕ) → length (little n v) ≡ n
unfolding little
length-little zero v = refl
length-little (suc n) v = ap suc (length-little n (v / 256))

-- ---- any items

unfoldable pub pieces : {A : Type 0} → (A → List ℕ) → List A → List ℕ
pieces f [] = []
pieces f (x ∷ xs) = f x ++ pieces f xs

-- i of the items stand in the output, each in w bytes, up to the place `at`; the rest are still to be written
pub record Standing {A : Type 0} (f : A → List ℕ) (w : ℕ) (all rest : List A) (old out : List ℕ) (i at : ℕ) : Type 0 where
  pub wide : (x : A) → length (f x) ≡ w
  pub count : i + length rest ≡ length all
  pub place : at ≡ w * i
  pub written : Writing (pieces f all) (pieces f rest) old out at
  -- what omega wants to know of it
  pub inside : at ≤ length out
  pub kept : length out ≡ length old

module _ {A : Type 0} (f : A → List ℕ) (w : ℕ) (wide : (x : A) → length (f x) ≡ w) where
  length-pieces : (items : List A) → length (pieces f items) ≡ w * length items
  unfolding pieces
  length-pieces [] = omega (arith, mul-zero w)
  length-pieces (x ∷ xs) = omega (arith, length-append (f x) (pieces f xs), wide x, length-pieces xs)

module _ {A : Type 0} {f : A → List ℕ} {w : ℕ} (wide : (x : A) → length (f x) ≡ w) where
  standing : {all rest : List A} {old out : List ℕ} {i at : ℕ} → i + length rest ≡ length all → at ≡ w * i
      → Writing (pieces f all) (pieces f rest) old out at → Standing f w all rest old out i at
  standing n p s = record { wide = wide; count = n; place = p; written = s; inside = place-within s; kept = same_length s }

  pub stand-start : {all rest : List A} {old : List ℕ} → all ≡ rest → w * length all ≤ length old → Standing f w all rest old old 0 0
  stand-start {all} e h =
      standing (omega (arith, ap length e)) (sym (mul-zero w)) (rest-is (begins (pieces f all) _ (rw (length-pieces f w wide all) h)) (ap (pieces f) e))

module _ {A : Type 0} {f : A → List ℕ} {w : ℕ} {all rest : List A} {old out : List ℕ} {i at : ℕ} (s : Standing f w all rest old out i at) where
  -- a turn of the loop: x is the first of the rest, and is written to the part `&mut out[at..]`
  module _ {x : A} {xs : List A} (e : rest ≡ x ∷ xs) where
    begun : Writing (pieces f all) (f x ++ pieces f xs) old out at
    unfolding pieces
    begun = rest-is s.written (ap (pieces f) e)

    pub stand-room : w ≤ length (lent_from at out)
    stand-room = next-room (f x) (pieces f xs) begun (s.wide x)

    pub stand-fits : at + w ≤ length out
    stand-fits = omega (arith, stand-room, length-part-to-end out at, s.inside)

    pub stand-next : {part : List ℕ} {to : ℕ} → part ≡ front (f x) (lent_from at out) → at + w ≡ to → Standing f w all xs old (back_from at out part) (i + 1) to
    stand-next {part} p q =
        let written = writes (f x) (pieces f xs) begun (filled (s.wide x) p) in
        let place : at + w ≡ w * (i + 1) = omega (arith, s.place, mul-add w i 1) in
        let one : Standing f w all xs old (back_from at out part) (i + 1) (at + w) = standing s.wide (omega (arith, s.count, ap length e)) place written in
        rw q at one

  module _ (e : rest ≡ []) where
    pub stand-count : i ≡ length all
    stand-count = omega (arith, s.count, ap length e)

    pub stand-end : {bytes : List ℕ} → pieces f all ≡ bytes → out ≡ front bytes old
    unfolding pieces
    stand-end b = (put_as b (finished (rest-is s.written (ap (pieces f) e)))).output

-- ---- numbers, and ranges

pub numbers-are : (w : ℕ) (vs : List ℕ) → pieces (little w) vs ≡ littles w vs
unfolding pieces littles
numbers-are w [] = refl
numbers-are w (v ∷ vs) = ap (λ (l : List ℕ). little w v ++ l) (numbers-are w vs)

-- the same of values that stand for numbers
pub values-are : {A : Type 0} (w : ℕ) (number : A → ℕ) (xs : List A) → pieces (λ x. little w (number x)) xs ≡ littles w (map number xs)
unfolding pieces littles
values-are w number [] = refl
values-are w number (x ∷ xs) = ap (λ (l : List ℕ). little w (number x) ++ l) (values-are w number xs)

-- numbers that stand for themselves
pub plainly : (w : ℕ) (vs old : List ℕ) {new : List ℕ} → new ≡ front (littles w (map (λ (v : ℕ). v) vs)) old → new ≡ front (littles w vs) old
plainly w vs old e = e ∙ ap (λ (l : List ℕ). front (littles w l) old) (map-id vs)

pub littles-append : (w : ℕ) (a b : List ℕ) → littles w (a ++ b) ≡ littles w a ++ littles w b
unfolding littles
littles-append w [] b = refl
littles-append w (x ∷ a) b = rw (littles-append w a b, append_assoc)

pub length-littles : (w : ℕ) (vs : List ℕ) → length (littles w vs) ≡ w * length vs
length-littles w vs = ap length (sym (numbers-are w vs)) ∙ length-pieces (little w) w (length-little w) vs

abbrev pub range_bytes : Span → List ℕ
range_bytes s = littles 2 (s.start ∷ s.length ∷ [])

pub range-wide : (s : Span) → length (range_bytes s) ≡ 4
range-wide s = length-littles 2 (s.start ∷ s.length ∷ [])

pub ranges-are : (ss : List Span) → pieces range_bytes ss ≡ littles 2 (ranges ss)
unfolding pieces ranges littles
ranges-are [] = refl
ranges-are (s ∷ ss) = rw (ranges-are ss) (sym (littles-append 2 (s.start ∷ s.length ∷ []) (ranges ss)))

-- a range's two numbers
pub two-littles : (a b : ℕ) → little 2 a ++ little 2 b ≡ littles 2 (a ∷ b ∷ [])
unfolding littles
two-littles a b = ap (λ (l : List ℕ). little 2 a ++ l) (sym (append-nil (little 2 b)))
