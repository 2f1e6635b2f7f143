-- Rules of the grammar's rows, each by one test that is computed over them all. Assumes nothing.
use Prim.Native.Nat.{ℕ, zero, suc, ◌≤◌, ◌<◌}
use mathlib.Core.Path.{◌≡◌, refl, ap}
use mathlib.Core.Bool.{Bool, true, ◌&&◌}
use mathlib.Core.List.{List, [], ◌∷◌}
use native.Mathlib.Omega.{arith}
use borrow.Author.Tests.{leb-true}
use lib.ListN.{length, get_or, get_or-eq_default}
use lib.Dec.{leb}
use Rattle.wire.proofs.ListLaws.{get_or-any-default}
use Rattle.wire.proofs.SumLaws.{and_left, and_right}
use Rattle.show_lines.specs.Grammar.{grammar, column}
use Rattle.show_lines.specs.Lines.{front_of, width_of}

-- a test that each row passes
abbrev every : (List ℕ → Bool) → List (List ℕ) → Bool
every f [] = true
every f (r ∷ rs) = f r && every f rs

-- passes at each place: after the last row stands an empty one
every-at : (f : List ℕ → Bool) (rs : List (List ℕ)) → every f rs ≡ true → f [] ≡ true → (k : ℕ) → f (get_or rs k []) ≡ true
every-at f [] t e k = e
every-at f (r ∷ rs) t e zero = and_left (f r) (every f rs) t
every-at f (r ∷ rs) t e (suc k) = every-at f rs (and_right (f r) (every f rs) t) e k

-- a length is the last bytes of its line's front, and at most three
abbrev measured : List ℕ → Bool
measured r = leb (get_or r 1 0) (get_or r 0 0) && leb (get_or r 1 0) 3

rows-measured : every measured grammar ≡ true
unfolding grammar
rows-measured = refl

row-measured : (what : ℕ) → measured (get_or grammar what []) ≡ true
row-measured what = every-at measured grammar rows-measured refl what

pub width-in-front : (what : ℕ) → width_of what ≤ front_of what
unfolding column
width-in-front what =
    leb-true (width_of what) (front_of what)
    (and_left (leb (width_of what) (front_of what)) (leb (width_of what) 3) (row-measured what))

pub width-most : (what : ℕ) → width_of what ≤ 3
unfolding column
width-most what =
    leb-true (width_of what) 3 (and_right (leb (width_of what) (front_of what)) (leb (width_of what) 3) (row-measured what))

-- ---- The entries

pub entry_at : (what k : ℕ) (d : List ℕ) → what < 27 → get_or (get_or grammar what d) k 0 ≡ column what k
unfolding column grammar
entry_at what k d h = ap (λ (r : List ℕ). get_or r k 0) (get_or-any-default grammar what d [] h)

-- no row stands after the 27
pub no_row : (what k : ℕ) → 27 ≤ what → column what k ≡ 0
unfolding column grammar
no_row what k h = ap (λ (r : List ℕ). get_or r k 0) (get_or-eq_default grammar [] h)

seven : every (λ r. leb (length r) 7) grammar ≡ true
unfolding grammar
seven = refl

pub no-column : (what k : ℕ) → 7 ≤ k → column what k ≡ 0
unfolding column
no-column what k h =
    let row : List ℕ = get_or grammar what [] in
    let few : length row ≤ 7 = leb-true (length row) 7 (every-at (λ r. leb (length r) 7) grammar seven refl what) in
    get_or-eq_default row 0 (omega arith)
