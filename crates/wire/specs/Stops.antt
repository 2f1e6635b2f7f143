-- Where a call of document 01 stops: the number of the first question to which the answer is "no", and the place in the input at which it
-- was asked.
use Rattle.std.specs.Prelude.{ℕ, ◌≤◌, ◌≡◌, Some, None, IfSome}
use Rattle.std.specs.Prelude as std
use Rattle.std.proofs.Math.Option.{Option, none, some}
use Rattle.wire.specs.Answer.{Answer, result, refused}
use Rattle.wire.specs.Refusals.{question}
use Rattle.wire.specs.declared.Stop.{Stop}

pub record Stopped : Type 0 where
  pub number : ℕ
  pub place : ℕ

abbrev pub stopped : ℕ → ℕ → Stopped
stopped number place = record { number = number; place = place }

-- what the code answers: none where all is accepted
abbrev pub stop_of : std.Option Stop → Option Stopped
stop_of None = none
stop_of (Some s) = some (stopped (question s.refusal) s.place)

-- the number of a stop is the number of the answer, and there is none exactly where there is a result
abbrev pub Numbered : {A : Type 0} → Option Stopped → Answer A → Type 0
Numbered none (result a) = Unit {0}
Numbered none (refused n) = ⊥
Numbered (some s) (result a) = ⊥
Numbered (some s) (refused n) = s.number ≡ n

-- its place lies in an input of a length, or at its end
abbrev pub StopWithin : ℕ → Option Stopped → Type 0
StopWithin length none = Unit {0}
StopWithin length (some s) = s.place ≤ length

-- the same of what the code answers; its number is one of 1 to 27 by the type of a refusal
abbrev pub StopBounds : ℕ → std.Option Stop → Type 0
StopBounds length r = IfSome r (λ s. s.place ≤ length)
