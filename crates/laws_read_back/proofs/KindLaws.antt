-- Types of extensions by kind: a claim about every type holds where it holds for the seven that are read and for all others. Assumes
-- nothing.
use Prim.Native.Nat.{ℕ}
use mathlib.Core.Path.{◌≡◌, refl}
use mathlib.Core.Bool.{Bool, true, false}
use lib.Dec.{eqb}
use borrow.Author.Tests.{eqb-true}
use Rattle.fingerprint_bodies.specs.Body.{kind, other}

-- a type whose body is not read
pub record Unread (t : ℕ) : Type 0 where
  pub not-name : eqb t 0x0000 ≡ false
  pub not-groups : eqb t 0x000a ≡ false
  pub not-algorithms : eqb t 0x000d ≡ false
  pub not-protocols : eqb t 0x0010 ≡ false
  pub not-versions : eqb t 0x002b ≡ false
  pub not-shares : eqb t 0x0033 ≡ false
  pub not-parameters : eqb t 0x0039 ≡ false

pub kind-unread : (t : ℕ) → Unread t → kind t ≡ other
unfolding kind
kind-unread t u =
    rw (u.not-name, u.not-groups, u.not-algorithms, u.not-protocols, u.not-versions, u.not-shares, u.not-parameters)

module _ (P : ℕ → Type 0) where
  either : (t n : ℕ) → P n → (eqb t n ≡ false → P t) → P t
  either t n here there = go (eqb t n) refl
    where
      go : (b : Bool) → eqb t n ≡ b → P t
      go true e = rw (eqb-true t n e) here
      go false e = there e

  pub by_kind : P 0x0000 → P 0x000a → P 0x000d → P 0x0010 → P 0x002b → P 0x0033 → P 0x0039 → ((t : ℕ) → Unread t → P t) → (t : ℕ) → P t
  by_kind name groups algorithms protocols versions shares parameters rest t =
      either t 0x0000 name (λ e0.
      either t 0x000a groups (λ e1.
      either t 0x000d algorithms (λ e2.
      either t 0x0010 protocols (λ e3.
      either t 0x002b versions (λ e4.
      either t 0x0033 shares (λ e5.
      either t 0x0039 parameters (λ e6.
      rest t (record {
        not-name = e0;
        not-groups = e1;
        not-algorithms = e2;
        not-protocols = e3;
        not-versions = e4;
        not-shares = e5;
        not-parameters = e6;
      }))))))))
