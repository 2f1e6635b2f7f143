-- What it says that a piece was found: each piece before it was, and each test held. Assumes nothing.
use Prim.Native.Nat.{ℕ, ◌≤◌}
use mathlib.Core.Path.{◌≡◌, refl}
use mathlib.Core.Bool.{Bool, true, false, cond}
use mathlib.Core.List.{List}
use mathlib.Core.Option.{Option, none, some}
use native.Mathlib.Omega.{arith}
use lib.ListN.{length}
use lib.Dec.{leb}
use borrow.Author.Tests.{leb-true}
use Rattle.fingerprint_bodies.specs.Entries.{bind, mapped, at_least, at_most}

-- nothing is no piece
pub none-some : {A : Type 0} {a : A} → none ≡ some a → ⊥
none-some e = let z : ◌≡◌ {A = ℕ} 0 1 = cc in omega arith

pub same_some : {A : Type 0} (a b : A) → some a ≡ some b → a ≡ b
same_some a b e = cc

-- the piece with which what follows went on
pub record Bound {A B : Type 0} (x : Option A) (next : A → Option B) (b : B) : Type 0 where
  pub value : A
  pub is : x ≡ some value
  pub after : next value ≡ some b

pub bind-some : {A B : Type 0} (x : Option A) (next : A → Option B) (b : B) → bind x next ≡ some b → Bound x next b
unfolding bind
bind-some none next b e = absurd (none-some e)
bind-some (some a) next b e = record { value = a; is = refl; after = e }

-- the value that was made into another
pub record Made {A B : Type 0} (make : A → B) (x : Option A) (b : B) : Type 0 where
  pub value : A
  pub is : x ≡ some value
  pub made : make value ≡ b

pub mapped-some : {A B : Type 0} (make : A → B) (x : Option A) (b : B) → mapped make x ≡ some b → Made make x b
unfolding mapped
mapped-some make none b e = absurd (none-some e)
mapped-some make (some a) b e = record { value = a; is = refl; made = same_some (make a) b e }

module _ {A : Type 0} where
  pub cond-next : (t : Bool) (x : Option A) (b : A) → cond t x none ≡ some b → (t ≡ true) × (x ≡ some b)
  cond-next true x b e = (refl, e)
  cond-next false x b e = absurd (none-some e)

  pub cond-some : (t : Bool) (a b : A) → cond t (some a) none ≡ some b → (t ≡ true) × (a ≡ b)
  cond-some t a b e = let p = cond-next t (some a) b e in (p.0, same_some a b p.1)

module _ {A : Type 0} where
  pub at_least-some : (n : ℕ) (l m : List A) → at_least n l ≡ some m → (n ≤ length m) × (l ≡ m)
  unfolding at_least
  at_least-some n l m e = let p = cond-some (leb n (length l)) l m e in (rw p.1 at (leb-true n (length l) p.0), p.1)

  pub at_most-some : (n : ℕ) (l m : List A) → at_most n l ≡ some m → (length m ≤ n) × (l ≡ m)
  unfolding at_most
  at_most-some n l m e = let p = cond-some (leb (length l) n) l m e in (rw p.1 at (leb-true (length l) n p.0), p.1)
