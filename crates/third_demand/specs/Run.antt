-- What a run of two greetings promises: each call's answer and buffer by that call's definition, and the third demand of the run.
use Rattle.std.specs.Prelude.{ℕ, ◌-◌, ◌≤◌, ◌≡◌, ◌↔◌, true, List, ◌++◌, length, take, replicate, Ok}
use Rattle.wire.specs.Answer.{result}
use Rattle.wire.specs.Refusals.{answer_of, told_of}
use Rattle.profiles.specs.Profile.{for_browser}
use Rattle.frames.specs.Frame.{Frame, encode_all}
use Rattle.frames.specs.Join.{limit, marks_after, Joins}
use Rattle.frames.specs.Lists.{Carry}
use Rattle.tls.specs.Make.{Makes}
use Rattle.tls.specs.declared.Hello.{Hello}
use Rattle.fingerprint.specs.ClientHello.{ClientHello}
use Rattle.fingerprint.specs.Reader.{read}
use Rattle.fingerprint.specs.Report.{report, empty_report, shown, parsed_of, told_report}
use Rattle.fingerprint.specs.InRange.{InRange}
use Rattle.alike.specs.Alike.{alike}
use Rattle.third_demand.specs.Demand.{Reported, front_of}
use Rattle.third_demand.specs.declared.Greeted.{Greeted}
use Rattle.third_demand.specs.declared.Outcome.{Outcome}

-- what one side is handed: numbers and bytes, and what its two buffers hold
pub record Handed : Type 0 where
  pub browser : ℕ
  pub name : List ℕ
  pub scid : List ℕ
  pub tape : List ℕ
  pub frames : List ℕ
  pub hello : List ℕ
  pub out : List ℕ

abbrev pub handed : ℕ → List ℕ → List ℕ → List ℕ → List ℕ → List ℕ → List ℕ → Handed
handed browser name scid tape frames hello out =
    record { browser = browser; name = name; scid = scid; tape = tape; frames = frames; hello = hello; out = out }

-- the front part of the output that reader and Alike get
abbrev pub left_in : Greeted → List ℕ → List ℕ
left_in r out = front_of (answer_of r.joined) out

-- ---- One side

pub record Went (s : Handed) (marks : List ℕ) (r : Greeted) (hello out marks' : List ℕ) : Type 0 where
  pub made : Makes s.browser s.name s.scid s.tape s.hello r.made hello
  pub joined : Joins s.frames s.out marks r.joined out marks'
  pub report : answer_of r.report ≡ parsed_of (read (left_in r out))
  pub tells : told_of (shown empty_report) r.report ≡ told_report (read (left_in r out))

-- ---- The third demand of the run

-- the maker made a hello, and the bytes handed to the joiner are those of whole frames that agree with what it wrote, end within it and
-- cover it
pub record Carried (s : Handed) (marks : List ℕ) (r : Greeted) (hello : List ℕ) : Type 0 where
  pub answer : Hello
  pub made : r.made ≡ Ok answer
  pub frames : List Frame
  pub bytes : s.frames ≡ encode_all frames
  pub carry : Carry frames (take answer.length hello)
  pub out-room : limit ≤ length s.out
  pub marks-room : limit ≤ length marks

-- The joiner's answer is the length of what the maker wrote, and its output that and then zeros. The reader accepts the front part of the
-- output, the struct handed out is the report of what it reads there, that report shows profile and name, and its names stand in the front
-- part where their ranges say.
pub record Arrived (s : Handed) (n : ℕ) (r : Greeted) (hello out : List ℕ) : Type 0 where
  pub joined : r.joined ≡ Ok n
  pub output : out ≡ take n hello ++ replicate (length s.out - n) 0
  pub value : ClientHello
  pub accepted : read (take n out) ≡ result value
  pub shows : r.report ≡ Ok (shown (report value))
  pub reported : Reported (for_browser s.browser) s.name (report value)
  pub ranges : InRange (take n out) (report value)

pub record RunDemand (s t : Handed) (n m : ℕ) (r : Outcome) (hello out other-hello other-out : List ℕ) : Type 0 where
  pub first : Arrived s n r.first hello out
  pub second : Arrived t m r.second other-hello other-out
  pub verdict : r.alike ≡ true ↔ ((s.browser ≡ t.browser) × (s.name ≡ t.name))

-- ---- The run

pub record Ran (s t : Handed) (marks : List ℕ) (r : Outcome) (hello out other-hello other-out marks' : List ℕ) : Type 0 where
  pub first : Went s marks r.first hello out (marks_after s.frames s.out marks)
  pub second : Went t (marks_after s.frames s.out marks) r.second other-hello other-out marks'
  pub verdict : r.alike ≡ alike (read (left_in r.first out)) (read (left_in r.second other-out))
  pub demand :
      (c : Carried s marks r.first hello) (d : Carried t (marks_after s.frames s.out marks) r.second other-hello)
      → RunDemand s t c.answer.length d.answer.length r hello out other-hello other-out
