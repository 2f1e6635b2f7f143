-- What a call of document 01 answers: its result, or the number of the first question to which the answer is "no".
use Rattle.std.specs.Prelude.{ℕ, ◌+◌, ◌^◌, ◌≤◌, Bool, true, false}

pub data Answer (A : Type 0) : Type 0 where
  result : A → Answer A
  refused : ℕ → Answer A

-- What an answer says in numbers: the number, 0 where nothing is refused, and the values. "A refusal carries its number, zero counts, an
-- empty report": its values are all zero, whatever a result would have had.
pub record Told (A : Type 0) : Type 0 where
  pub number : ℕ
  pub values : A

abbrev pub told : {A : Type 0} → A → Answer A → Told A
told zeros (result a) = record { number = 0; values = a }
told zeros (refused n) = record { number = n; values = zeros }

-- a question with its number: on "yes" what follows decides
abbrev pub ask : {A : Type 0} → Bool → ℕ → Answer A → Answer A
ask true n next = next
ask false n next = refused n

-- a question that has a result of its own, with which what follows goes on
abbrev pub ask_for : {A B : Type 0} → Answer A → ℕ → (A → Answer B) → Answer B
ask_for (result a) n next = next a
ask_for (refused k) n next = refused n

-- what follows a result; a refusal stands
abbrev pub and_then : {A B : Type 0} → Answer A → (A → Answer B) → Answer B
and_then (result a) next = next a
and_then (refused k) next = refused k

-- what a buffer holds after a call: by the result, or left as it was
abbrev pub unless_refused : {A B : Type 0} → Answer A → (A → B) → B → B
unless_refused (result a) f old = f a
unless_refused (refused n) f old = old

-- the numbers that a refusal may carry (demand 1)
abbrev pub IsNumber : ℕ → Type 0
IsNumber n = (1 ≤ n) × (n ≤ 27)

-- an answer as one 64-bit number, for C: the result, or 2^32 plus the number
abbrev pub coded : Answer ℕ → ℕ
coded (result n) = n
coded (refused n) = 2 ^ 32 + n
