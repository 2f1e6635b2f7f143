-- The calls for C: what each answers as one 64-bit number, the result or 2^32 plus the number of the refusal, and what it leaves in the
-- buffers.
use Rattle.std.specs.Prelude.{ℕ, ◌+◌, ◌^◌, ◌≡◌, List, length, Result, Ok, Err}
use Rattle.wire.specs.Answer.{Answer, result, and_then, coded}
use Rattle.wire.specs.Refusals.{question}
use Rattle.frames.specs.Join.{join_of, out_after, marks_after}
use Rattle.frames.specs.Cut.{cut_of, after_cut}
use Rattle.tls.specs.Make.{make_of, after_make}
use Rattle.tls.specs.declared.Hello.{Hello}
use Rattle.fingerprint.specs.ClientHello.{ClientHello}
use Rattle.fingerprint_layout.specs.Layout.{ReportCoded}
use Rattle.crustdelta_c.specs.declared.NoReport.{NoReport}
use Rattle.crustdelta_c.specs.declared.NoReport.TheVariants.{Refused, NoRoom}

-- the maker: of its answer one part, as the length
abbrev pub length_of : Hello → ℕ
length_of h = h.length

pub record MakeCoded (part : Hello → ℕ) (browser : ℕ) (name scid tape old : List ℕ) (r : ℕ) (new : List ℕ) : Type 0 where
  pub is : r ≡ coded (and_then (make_of browser name scid tape (length old)) (λ h. result (part h)))
  pub output : new ≡ after_make browser name scid tape old

-- the reader, without its report: 0 where the hello is accepted
unfoldable pub read_answer : Answer ClientHello → ℕ
read_answer a = coded (and_then a (λ v. result 0))

-- the writer of a report: why there is none is the refusal, or 100, which no question of document 01 has
abbrev pub reason_number : NoReport → ℕ
reason_number (Refused e) = question e
reason_number NoRoom = 100

abbrev pub coded_report : Result ℕ NoReport → ℕ
coded_report (Ok n) = n
coded_report (Err reason) = 2 ^ 32 + reason_number reason

abbrev pub Reports : Answer ClientHello → List ℕ → Result ℕ NoReport → List ℕ → Type 0
Reports a old r new = ReportCoded a old (coded_report r) new

-- the joiner
pub record JoinCoded (bs out marks : List ℕ) (r : ℕ) (out' marks' : List ℕ) : Type 0 where
  pub is : r ≡ coded (join_of bs out marks)
  pub output : out' ≡ out_after bs out marks
  pub marked : marks' ≡ marks_after bs out marks

-- the frame writer
pub record CutCoded (c : ℕ) (hello old : List ℕ) (r : ℕ) (new : List ℕ) : Type 0 where
  pub is : r ≡ coded (cut_of c hello (length old))
  pub output : new ≡ after_cut c hello old
