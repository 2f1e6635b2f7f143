-- The table of widths and ceilings: the class of a value is the first that holds it. Assumes nothing.
use Prim.Native.Nat.{ℕ, zero, suc, zero-le, suc-le-suc, ◌^◌, ◌≤◌, ◌<◌}
use mathlib.Core.Path.{◌≡◌, refl}
use mathlib.Core.List.{List, [], ◌∷◌}
use mathlib.Core.Logic.{⊎_elim}
use native.Mathlib.Nat.{le_of_suc-le-suc}
use native.Mathlib.Omega.{arith}
use lib.ListN.{length, get_or}
use lib.Dec.{lit<, lit≤}
use lib.Pow.{pow_mono}
use borrow.Author.Tests.{lt-ltb, le-ltb}
use Rattle.wire.proofs.ListLaws.{lt-or-le, at-four}
use Rattle.varint.specs.Varint.{ceilings, width, ceiling, first_above, class}

-- ---- any table of ceilings

pub first_above-holds : (cs : List ℕ) (v : ℕ) → first_above cs v < length cs → v < get_or cs (first_above cs v) 0
unfolding first_above
first_above-holds [] v h = absurd (omega arith)
first_above-holds (c ∷ cs) v h =
    ⊎_elim
    (λ p. rw (lt-ltb v c p) p)
    (λ q. rw (le-ltb v c q) (first_above-holds cs v (le_of_suc-le-suc (rw (le-ltb v c q) at h))))
    (lt-or-le v c)

pub first_above-least : (cs : List ℕ) (v k : ℕ) → k < length cs → v < get_or cs k 0 → first_above cs v ≤ k
unfolding first_above
first_above-least [] v k h l = absurd (omega arith)
first_above-least (c ∷ cs) v zero h l = rw (lt-ltb v c l) zero-le
first_above-least (c ∷ cs) v (suc k) h l =
    ⊎_elim (λ p. rw (lt-ltb v c p) zero-le) (λ q. rw (le-ltb v c q) (suc-le-suc (first_above-least cs v k (le_of_suc-le-suc h) l))) (lt-or-le v c)

-- ---- this table

-- the widths are the powers of two, so they rise
width_power : (c : ℕ) → c < 4 → width c ≡ 2 ^ c
width_power = at-four (λ c. width c ≡ 2 ^ c) refl refl refl refl

pub width-rises : (c d : ℕ) → c ≤ d → d < 4 → width c ≤ width d
width-rises c d h k = rw (width_power c (omega arith), width_power d k) (pow_mono h)

pub width_positive : (c : ℕ) → c < 4 → 1 ≤ width c
width_positive = at-four (λ c. 1 ≤ width c) (lit≤ tt) (lit≤ tt) (lit≤ tt) (lit≤ tt)

pub width-most : (c : ℕ) → c < 4 → width c ≤ 8
width-most = at-four (λ c. width c ≤ 8) (lit≤ tt) (lit≤ tt) (lit≤ tt) (lit≤ tt)

pub ceiling-positive : (c : ℕ) → c < 4 → 0 < ceiling c
ceiling-positive = at-four (λ c. 0 < ceiling c) (lit< tt) (lit< tt) (lit< tt) (lit< tt)

pub ceiling-most : (c : ℕ) → c < 4 → ceiling c ≤ 2 ^ 62
ceiling-most = at-four (λ c. ceiling c ≤ 2 ^ 62) (lit≤ tt) (lit≤ tt) (lit≤ tt) (lit≤ tt)

pub class-holds : (v : ℕ) → class v < 4 → v < ceiling (class v)
unfolding class
class-holds v h = first_above-holds ceilings v h

pub class-least : (v c : ℕ) → c < 4 → v < ceiling c → class v ≤ c
unfolding class
class-least v c h l = first_above-least ceilings v c h l

-- a value has a class exactly where it is below 2^62
pub class-small : (v : ℕ) → v < 2 ^ 62 → class v < 4
class-small v h = suc-le-suc (class-least v 3 (lit< tt) h)

pub small-class : (v : ℕ) → class v < 4 → v < 2 ^ 62
small-class v h = omega (arith, class-holds v h, ceiling-most (class v) h)

pub large-class : (v : ℕ) → 4 ≤ class v → 2 ^ 62 ≤ v
large-class v h = ⊎_elim (λ p. absurd (omega (arith, class-small v p))) (λ q. q) (lt-or-le v (2 ^ 62))
