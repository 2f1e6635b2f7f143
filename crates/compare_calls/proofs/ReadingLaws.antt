-- The answers of the reader's calls as single numbers. Assumes nothing.
use Rattle.std.proofs.Common.{◌≡◌, ℕ, ◌+◌, ◌^◌, ◌<◌, ◌≤◌, List, refl, ap, ◌∙◌, arith, le-leb}
use borrow.Author.Tests.{lt-leb}
use Rattle.wire.specs.Answer.{Answer, result, refused}
use Rattle.wire.specs.Refusals.{question}
use Rattle.fingerprint.specs.ClientHello.{ClientHello}
use Rattle.fingerprint.specs.declared.Fingerprint.{Fingerprint}
use Rattle.fingerprint.proofs.Accepted.{Numbered}
use Rattle.answers.specs.Said.{Line, answer, handed, refusal, line_of, plain, plainly, said_count, Says}
use Rattle.answers_reader.specs.Answers.{report_answer}
use Rattle.answers.specs.declared.Said.{Said}
use Rattle.answers.specs.declared.Said.TheVariants as said
use Rattle.compare_calls.specs.Reading.{ReportCoded, TextCoded, sum_at, picked_of}

-- ---- `compare_report` and `compare_set`

-- an answer's length, or 2^32 plus the number that it refuses with
abbrev pub coded_said : Said → ℕ
coded_said (said.Answer n) = n
coded_said (said.Handed n k) = n
coded_said (said.Refused n e) = 2 ^ 32 + question e

-- the number that an answer refuses with
abbrev pub said_number : Said → ℕ
said_number (said.Answer n) = 0
said_number (said.Handed n k) = 0
said_number (said.Refused n e) = question e

-- the same of an answer in numbers, and its length alone
abbrev coded_line : Line → ℕ
coded_line (answer n) = n
coded_line (handed n k) = n
coded_line (refusal n k) = 2 ^ 32 + k

abbrev line_number : Line → ℕ
line_number (answer n) = 0
line_number (handed n k) = 0
line_number (refusal n k) = k

abbrev line_count : Line → ℕ
line_count (answer n) = n
line_count (handed n k) = n
line_count (refusal n k) = n

coded-line : (r : Said) → coded_said r ≡ coded_line (line_of r)
coded-line (said.Answer n) = refl
coded-line (said.Handed n k) = refl
coded-line (said.Refused n e) = refl

number-line : (r : Said) → said_number r ≡ line_number (line_of r)
number-line (said.Answer n) = refl
number-line (said.Handed n k) = refl
number-line (said.Refused n e) = refl

count-line : (r : Said) → said_count r ≡ line_count (line_of r)
count-line (said.Answer n) = refl
count-line (said.Handed n k) = refl
count-line (said.Refused n e) = refl

module _ {r : Said} {old new : List ℕ} where
  pub report-coded : (a : Answer ClientHello) → Says (plainly a) (report_answer a) r old new → ReportCoded a old (coded_said r) new
  report-coded (result v) s = record { is = coded-line r ∙ ap coded_line s.is; output = s.output }
  report-coded (refused k) s = record { is = coded-line r ∙ ap coded_line s.is; output = s.output }

  pub report-number : (a : Answer ClientHello) → Numbered a → Says (plainly a) (report_answer a) r old new → said_number r ≤ 23
  report-number (result v) f s = omega (arith, number-line r, ap line_number s.is)
  report-number (refused k) f s = omega (arith, number-line r, ap line_number s.is, f.1)

  pub text-coded : {parts : List (List ℕ)} → Says plain parts r old new → TextCoded parts old (said_count r) new
  text-coded s = record { is = count-line r ∙ ap line_count s.is; output = s.output }

-- ---- `compare_picked`

pub no_place : (a : Answer Fingerprint) (k : ℕ) → 16 ≤ k → 0 ≡ picked_of a k
unfolding picked_of
no_place (result p) k h = rw (le-leb 16 k h)
no_place (refused n) k h = rw (le-leb 16 k h)

module _ (k : ℕ) (h : k < 16) where
  pub picked-result : (p : Fingerprint) → sum_at p k ≡ picked_of (result p) k
  unfolding picked_of
  picked-result p = rw (lt-leb 16 k h)

  pub picked-refused : (n : ℕ) → n ≡ picked_of (refused n) k
  unfolding picked_of
  picked-refused n = rw (lt-leb 16 k h)
