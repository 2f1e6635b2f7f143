-- What a command promises: the text of its answer, and the bytes that it hands back.
use Rattle.std.specs.Prelude.{ℕ, ◌≤◌, ◌≡◌, List, length}
use Rattle.wire.specs.Answer.{Answer, result, refused}
use Rattle.wire.specs.Front.{front}
use Rattle.wire.specs.Refusals.{question}
use Rattle.script_writing.specs.Shown.{fitted}
use Rattle.script_writing.specs.Answers.{fitted_all}
use Rattle.answers.specs.declared.Said.{Said}
use Rattle.answers.specs.declared.Said.TheVariants as said

-- how many bytes of text an answer has
abbrev pub said_count : Said → ℕ
said_count (said.Answer n) = n
said_count (said.Handed n k) = n
said_count (said.Refused n e) = n

-- how many bytes it hands back
abbrev pub handed_count : Said → ℕ
handed_count (said.Answer n) = 0
handed_count (said.Handed n k) = k
handed_count (said.Refused n e) = 0

-- an answer in numbers: the bytes of its text, and those handed back or the number of the refusal
pub data Line : Type 0 where
  answer : ℕ → Line
  handed : ℕ → ℕ → Line
  refusal : ℕ → ℕ → Line

abbrev pub line_of : Said → Line
line_of (said.Answer n) = answer n
line_of (said.Handed n k) = handed n k
line_of (said.Refused n e) = refusal n (question e)

-- a call's outcome: a result, one that hands bytes back, or a refusal
pub data Outcome : Type 0 where
  plain : Outcome
  hands : List ℕ → Outcome
  number : ℕ → Outcome

abbrev pub plainly : {A : Type 0} → Answer A → Outcome
plainly (result a) = plain
plainly (refused k) = number k

abbrev pub handing : {A : Type 0} → Answer A → List ℕ → Outcome
handing (result a) bytes = hands bytes
handing (refused k) bytes = number k

-- with n bytes of text, and room for so many bytes handed back
abbrev pub said_of : Outcome → ℕ → ℕ → Line
said_of plain n room = answer n
said_of (hands bytes) n room = handed n (length (fitted bytes room))
said_of (number k) n room = refusal n k

-- "`_`: the bytes of the last answer that handed some back"
abbrev pub last_after : Outcome → List ℕ → List ℕ
last_after plain last = last
last_after (hands bytes) last = front (fitted bytes (length last)) last
last_after (number k) last = last

-- the text at the output's front
pub record Says (o : Outcome) (parts : List (List ℕ)) (r : Said) (old new : List ℕ) : Type 0 where
  pub is : line_of r ≡ said_of o (length (fitted_all parts (length old))) 0
  pub output : new ≡ front (fitted_all parts (length old)) old
  pub within : said_count r ≤ length old
  pub nothing : handed_count r ≡ 0

-- the same, and what is handed back for `_`
pub record Hands (o : Outcome) (parts : List (List ℕ)) (r : Said) (old new last last' : List ℕ) : Type 0 where
  pub is : line_of r ≡ said_of o (length (fitted_all parts (length old))) (length last)
  pub output : new ≡ front (fitted_all parts (length old)) old
  pub kept : last' ≡ last_after o last
  pub within : said_count r ≤ length old
  pub room : handed_count r ≤ length last
