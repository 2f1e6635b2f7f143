-- The kind of a type: which one, and the place of its note. Assumes nothing.
use Prim.Native.Nat.{ℕ, ◌<◌}
use mathlib.Core.Path.{◌≡◌, refl, sym, ap, ◌∙◌}
use mathlib.Core.Bool.{Bool, true, false, cond}
use native.Mathlib.Omega.{arith}
use borrow.Author.Tests.{ne_eqb, eqb-true}
use lib.Dec.{eqb}
use Rattle.fingerprint_bodies.specs.Body.{Kind, name, groups, algorithms, protocols, versions, shares, parameters, other, kind}
use Rattle.fingerprint.specs.Code.{slot, kind_at}

pub kind-other : (t : ℕ) → (t ≡ 0x0000 → ⊥) → (t ≡ 0x000a → ⊥) → (t ≡ 0x000d → ⊥) → (t ≡ 0x0010 → ⊥) → (t ≡ 0x002b → ⊥) → (t ≡ 0x0033 → ⊥)
    → (t ≡ 0x0039 → ⊥) → kind t ≡ other
unfolding kind
kind-other t a b c d e f g = rw (ne_eqb t 0x0000 a, ne_eqb t 0x000a b, ne_eqb t 0x000d c, ne_eqb t 0x0010 d, ne_eqb t 0x002b e, ne_eqb t 0x0033 f, ne_eqb t 0x0039 g)

-- ---- a kind that is read has one type

abbrev type_for : Kind → ℕ
type_for name = 0x0000
type_for groups = 0x000a
type_for algorithms = 0x000d
type_for protocols = 0x0010
type_for versions = 0x002b
type_for shares = 0x0033
type_for parameters = 0x0039
type_for other = 0

kind-type : (t : ℕ) → (kind t ≡ other → ⊥) → t ≡ type_for (kind t)
unfolding kind
kind-type t = go (eqb t 0x0000) (eqb t 0x000a) (eqb t 0x000d) (eqb t 0x0010) (eqb t 0x002b) (eqb t 0x0033) (eqb t 0x0039) refl refl refl refl refl refl refl
  where
    chosen : Bool → Bool → Bool → Bool → Bool → Bool → Bool → Kind
    chosen a b c d e f g = cond a name (cond b groups (cond c algorithms (cond d protocols (cond e versions (cond f shares (cond g parameters other))))))

    go : (a b c d e f g : Bool) → eqb t 0x0000 ≡ a → eqb t 0x000a ≡ b → eqb t 0x000d ≡ c → eqb t 0x0010 ≡ d → eqb t 0x002b ≡ e → eqb t 0x0033 ≡ f
        → eqb t 0x0039 ≡ g → (chosen a b c d e f g ≡ other → ⊥) → t ≡ type_for (chosen a b c d e f g)
    go true b c d e f g p q r s u v w n = eqb-true t 0x0000 p
    go false true c d e f g p q r s u v w n = eqb-true t 0x000a q
    go false false true d e f g p q r s u v w n = eqb-true t 0x000d r
    go false false false true e f g p q r s u v w n = eqb-true t 0x0010 s
    go false false false false true f g p q r s u v w n = eqb-true t 0x002b u
    go false false false false false true g p q r s u v w n = eqb-true t 0x0033 v
    go false false false false false false true p q r s u v w n = eqb-true t 0x0039 w
    go false false false false false false false p q r s u v w n = absurd (n refl)

pub kind-same : (t u : ℕ) → kind t ≡ kind u → (kind u ≡ other → ⊥) → t ≡ u
kind-same t u e n = kind-type t (λ o. n (sym e ∙ o)) ∙ ap type_for e ∙ sym (kind-type u n)

pub other-type : (t u : ℕ) → (kind u ≡ kind t → ⊥) → eqb t u ≡ false
other-type t u n = ne_eqb t u (λ e. n (ap kind (sym e)))

-- ---- places of bodies

pub slot_small : (k : Kind) → slot k < 8
slot_small name = omega arith
slot_small groups = omega arith
slot_small algorithms = omega arith
slot_small protocols = omega arith
slot_small versions = omega arith
slot_small shares = omega arith
slot_small parameters = omega arith
slot_small other = omega arith

-- the kind whose place it is
pub kind-at-slot : (k : Kind) → kind_at (slot k) ≡ k
kind-at-slot name = refl
kind-at-slot groups = refl
kind-at-slot algorithms = refl
kind-at-slot protocols = refl
kind-at-slot versions = refl
kind-at-slot shares = refl
kind-at-slot parameters = refl
kind-at-slot other = refl

pub kind-at-other : (n : ℕ) → (n ≡ 0 → ⊥) → (n ≡ 1 → ⊥) → (n ≡ 2 → ⊥) → (n ≡ 3 → ⊥) → (n ≡ 4 → ⊥) → (n ≡ 5 → ⊥) → (n ≡ 6 → ⊥) → kind_at n ≡ other
kind-at-other n a b c d e f g = rw (ne_eqb n 0 a, ne_eqb n 1 b, ne_eqb n 2 c, ne_eqb n 3 d, ne_eqb n 4 e, ne_eqb n 5 f, ne_eqb n 6 g)

pub slot_same : (k l : Kind) → slot k ≡ slot l → k ≡ l
slot_same k l e = sym (kind-at-slot k) ∙ ap kind_at e ∙ kind-at-slot l
