-- What a command says, from what its writers wrote. Assumes nothing.
use Prim.Native.Nat.{ℕ, ◌-◌}
use mathlib.Core.Path.{◌≡◌, refl, ap}
use mathlib.Core.List.{List}
use lib.ListN.{take, drop}
use native.Mathlib.Omega.{arith}
use Rattle.wire.specs.Refusals.{question}
use Rattle.wire.specs.declared.refusals.Refusal.{Refusal}
use Rattle.script_writing.specs.Shown.{Written}
use Rattle.script_writing.specs.Answers.{WrittenAll}
use Rattle.answers.specs.Said.{Says, Hands, plain, hands, number, answer, refusal}
use Rattle.answers.specs.declared.Said.{Said}
use Rattle.answers.specs.declared.Said.TheVariants as said

module _ (parts : List (List ℕ)) (n : ℕ) (old new : List ℕ) (w : WrittenAll parts n old new) where
  pub says-result : Says plain parts (said.Answer n) old new
  says-result =
      record { is = ap (λ (k : ℕ). answer k) w.put.count; output = w.put.output; within = w.within; nothing = refl }

  pub says-refused : (e : Refusal) → Says (number (question e)) parts (said.Refused n e) old new
  says-refused e =
      record { is = ap (λ (m : ℕ). refusal m (question e)) w.put.count; output = w.put.output; within = w.within; nothing = refl }

  module _ (last : List ℕ) where
    pub hands-nothing : Hands plain parts (said.Answer n) old new last last
    hands-nothing =
        record { is = ap (λ (k : ℕ). answer k) w.put.count; output = w.put.output; kept = refl; within = w.within; room = omega arith }

    pub hands-refused : (e : Refusal) → Hands (number (question e)) parts (said.Refused n e) old new last last
    hands-refused e =
        record { is = ap (λ (m : ℕ). refusal m (question e)) w.put.count; output = w.put.output; kept = refl; within = w.within; room = omega arith }

    pub hands-back : (bytes : List ℕ) (k : ℕ) (last' : List ℕ) → Written bytes k last last' → Hands (hands bytes) parts (said.Handed n k) old new last last'
    hands-back bytes k last' v =
        record { is = rw (← w.put.count, ← v.put.count); output = w.put.output; kept = v.put.output; within = w.within; room = v.within }

-- a command that may hand bytes back hands none where it is refused
pub refused-hands : (k : ℕ) (parts : List (List ℕ)) (r : Said) (old new last : List ℕ) → Says (number k) parts r old new → Hands (number k) parts r old new last last
refused-hands k parts r old new last s =
    record { is = s.is; output = s.output; kept = refl; within = s.within; room = omega (arith, s.nothing) }

-- the part `&xs[0..n]`, as the borrow checker has it
pub front-part : (n : ℕ) (xs ys : List ℕ) → take n xs ≡ ys → take (n - 0) (drop 0 xs) ≡ ys
front-part n xs ys e = let z : n - 0 ≡ n = omega arith in rw z e
