-- What it says that an answer is a result: each question before it was answered. Assumes nothing.
use Prim.Native.Nat.{ℕ}
use mathlib.Core.Path.{◌≡◌, refl}
use mathlib.Core.Bool.{Bool, true, false}
use native.Mathlib.Omega.{arith}
use Rattle.std.specs.Prelude.{Result, Ok, Err}
use Rattle.wire.specs.Answer.{Answer, result, refused, told, ask, ask_for, and_then}
use Rattle.wire.specs.Refusals.{answer_of, told_of}
use Rattle.wire.specs.declared.refusals.Refusal.{Refusal}

-- a result is no refusal
pub apart : {A : Type 0} {a : A} {n : ℕ} → refused n ≡ result a → ⊥
apart e = let z : ◌≡◌ {A = ℕ} 0 1 = cc in omega arith

pub same-result : {A : Type 0} (a b : A) → result a ≡ result b → a ≡ b
same-result a b e = cc

pub ask-yes : {A : Type 0} (b : Bool) (n : ℕ) (next : Answer A) (a : A) → ask b n next ≡ result a → (b ≡ true) × (next ≡ result a)
ask-yes true n next a e = (refl, e)
ask-yes false n next a e = absurd (apart e)

-- the result with which what follows went on
pub record Passed {A B : Type 0} (first : Answer A) (next : A → Answer B) (b : B) : Type 0 where
  pub value : A
  pub is : first ≡ result value
  pub after : next value ≡ result b

module _ {A B : Type 0} where
  pub ask_for-result : (first : Answer A) (n : ℕ) (next : A → Answer B) (b : B) → ask_for first n next ≡ result b → Passed first next b
  ask_for-result (result a) n next b e = record { value = a; is = refl; after = e }
  ask_for-result (refused k) n next b e = absurd (apart e)

  pub and_then-result : (first : Answer A) (next : A → Answer B) (b : B) → and_then first next ≡ result b → Passed first next b
  and_then-result (result a) next b e = record { value = a; is = refl; after = e }
  and_then-result (refused k) next b e = absurd (apart e)

  -- what follows matters only at a result
  pub and_then-agree : (first : Answer A) (f g : A → Answer B) → ((a : A) → first ≡ result a → f a ≡ g a) → and_then first f ≡ and_then first g
  and_then-agree (result a) f g h = h a refl
  and_then-agree (refused k) f g h = refl

-- what a case tells in numbers is what its answer does, so a promise needs the answer alone
pub told-answer : {A : Type 0} (zeros : A) (r : Result A Refusal) → told_of zeros r ≡ told zeros (answer_of r)
told-answer zeros (Ok a) = refl
told-answer zeros (Err e) = refl

-- where the answer is a result, the code gave it
pub ok-of : {A : Type 0} {a : A} (r : Result A Refusal) → answer_of r ≡ result a → r ≡ Ok a
ok-of (Ok b) e = cc
ok-of (Err k) e = absurd (apart e)

pub same-ok : {A E : Type 0} {a b : A} → ◌≡◌ {A = Result A E} (Ok a) (Ok b) → a ≡ b
same-ok e = cc
