-- A run of two greetings: what the calls promise of it says that the third demand holds of it. Assumes nothing.
use Prim.Native.Nat.{ℕ, ◌-◌, ◌≤◌, zero-le}
use mathlib.Core.Path.{◌≡◌, refl, sym, ap, ap₂, subst, ◌∙◌}
use mathlib.Core.List.{List, ◌++◌}
use mathlib.Core.Option.{Option, none, some}
use lib.ListN.{length, take, drop, replicate}
use Rattle.std.specs.Prelude.{Result, Ok, Err, Some, IfOk}
use Rattle.std.specs.Result.{result_unwrap_or}
use Rattle.wire.specs.Answer.{result}
use Rattle.wire.specs.Refusals.{answer_of}
use Rattle.wire.specs.declared.refusals.Refusal.{Refusal}
use Rattle.wire.specs.Numbers.{Bytes}
use Rattle.wire.proofs.AnswerLaws.{ok-of}
use Rattle.frames.specs.Frame.{encode_all}
use Rattle.frames.specs.Join.{limit, join_of, out_after, Joins}
use Rattle.frames.specs.Lists.{Carry}
use Rattle.frames.proofs.Results.{end-within}
use Rattle.tls.specs.Make.{make_of, made_bytes, Makes}
use Rattle.tls.proofs.Results.{answered, hello-taken}
use Rattle.tls.specs.declared.Hello.{Hello}
use Rattle.fingerprint_bodies.specs.Entries.{mapped}
use Rattle.fingerprint_bodies.proofs.BindLaws.{none-some, same_some}
use Rattle.fingerprint_lists.specs.Arrays.{Part, span_of}
use Rattle.fingerprint_lists.specs.declared.Span.{Span}
use Rattle.fingerprint.specs.Reader.{read}
use Rattle.fingerprint.specs.Report.{report, sni_of, shown, parsed_of}
use Rattle.fingerprint.specs.InRange.{Inside, SniLies, InRange}
use Rattle.fingerprint.specs.declared.Fingerprint.{Fingerprint}
use Rattle.alike.specs.Alike.{bytes_of, likeness, alike}
use Rattle.third_demand.specs.Demand.{profile_likeness, Greeting, hello_of, front_of, received_of, Sent, Arrives}
use Rattle.third_demand.specs.Run.{Handed, handed, left_in, Went, Carried, Arrived, RunDemand, Ran}
use Rattle.third_demand.specs.declared.Greeted.{Greeted}
use Rattle.third_demand.specs.declared.Outcome.{Outcome}
use Rattle.third_demand.proofs.ThirdDemand.{third-demand}

-- ---- The front part of the output

-- it lies within the output
pub end-inside : {bs out marks out' marks' : List ℕ} {r : Result ℕ Refusal} → Joins bs out marks r out' marks' → result_unwrap_or r 0 ≤ length out
end-inside {bs} {out} {marks} {out'} {marks'} {r} j = go r j.is j.bounds
  where
    go : (r : Result ℕ Refusal) → answer_of r ≡ join_of bs out marks → IfOk r (λ e. e ≤ limit) → result_unwrap_or r 0 ≤ length out
    go (Ok e) is b = end-within bs out marks e (sym is) b
    go (Err n) is b = zero-le

-- and is what a slice of it has, up to the joiner's end
pub front-part : (r : Result ℕ Refusal) (out : List ℕ) → take (result_unwrap_or r 0) out ≡ front_of (answer_of r) out
front-part (Ok e) out = refl
front-part (Err n) out = refl

-- ---- One side

-- what the maker wrote is the hello
written : {browser : ℕ} {name scid tape old new : List ℕ} {r : Result Hello Refusal} (h : Hello) → Makes browser name scid tape old r new
    → make_of browser name scid tape (length old) ≡ result h → take h.length new ≡ made_bytes browser name scid tape
written {browser} {name} {scid} {tape} {old} h m e = ap (take h.length) m.output ∙ hello-taken browser name scid tape old h e

module _ {s : Handed} {marks : List ℕ} {r : Greeted} {hello out marks' : List ℕ} (w : Went s marks r hello out marks')
    (c : Carried s marks r hello) where
  abbrev pub greeting : Greeting
  greeting =
      record {
        browser = s.browser;
        name = s.name;
        scid = s.scid;
        tape = s.tape;
        room = length s.hello;
        frames = c.frames;
        out = s.out;
        marks = marks;
      }

  made : make_of s.browser s.name s.scid s.tape (length s.hello) ≡ result c.answer
  made = sym w.made.is ∙ ap answer_of c.made

  wrote : take c.answer.length hello ≡ hello_of greeting
  wrote = written c.answer w.made made

  long : length (hello_of greeting) ≡ c.answer.length
  long =
      ap (λ (h : Hello). h.length) (answered s.browser s.name s.scid s.tape (length s.hello) c.answer made).is

  pub sent : Bytes s.scid → Bytes s.tape → Sent greeting
  sent scid-bytes tape-bytes =
      record {
        made = record { answer = c.answer; is = made; scid-bytes = scid-bytes; tape-bytes = tape-bytes };
        carried = subst (λ (h : List ℕ). Carry c.frames h) wrote c.carry;
        out-room = c.out-room;
        marks-room = c.marks-room;
      }

  -- what the joiner answered and left is what it answers and leaves of the frames
  answer-is : answer_of r.joined ≡ join_of (encode_all c.frames) s.out marks
  answer-is = w.joined.is ∙ ap (λ (bs : List ℕ). join_of bs s.out marks) c.bytes

  output-is : out ≡ out_after (encode_all c.frames) s.out marks
  output-is = w.joined.output ∙ ap (λ (bs : List ℕ). out_after bs s.out marks) c.bytes

  pub received : left_in r out ≡ received_of greeting
  received = ap₂ front_of answer-is output-is

  pub arrived : Arrives greeting → Arrived s c.answer.length r hello out
  unfolding parsed_of
  arrived a =
      let ended = ok-of r.joined (answer-is ∙ a.joined ∙ ap result long) in
      let front : take c.answer.length out ≡ received_of greeting = ap (λ (j : Result ℕ Refusal). front_of (answer_of j) out) (sym ended) ∙ received in
      record {
        joined = ended;
        output = output-is ∙ a.output ∙ ap₂ (λ (h : List ℕ) (n : ℕ). h ++ replicate (length s.out - n) 0) (sym wrote) long;
        value = a.value;
        accepted = ap read front ∙ a.accepted;
        shows = ok-of r.report (rw (received, a.accepted) at w.report);
        reported = a.reported;
        ranges = subst (λ (h : List ℕ). InRange h (report a.value)) (sym front) a.ranges;
      }

-- ---- What the demand of a run asks for, of every run that is handed what a greeting has

abbrev pub handed_by : Greeting → List ℕ → Handed
handed_by g before = handed g.browser g.name g.scid g.tape (encode_all g.frames) before g.out

pub run-carried : {r : Greeted} {hello out marks' : List ℕ} (g : Greeting) (before : List ℕ) → Sent g → length before ≡ g.room
    → Went (handed_by g before) g.marks r hello out marks' → Carried (handed_by g before) g.marks r hello
run-carried {r} {hello} g before s room w =
    let answer : Hello = s.made.answer in
    let is : make_of g.browser g.name g.scid g.tape (length before) ≡ result answer = rw room s.made.is in
    let wrote : take answer.length hello ≡ hello_of g = written answer w.made is in
    record {
      answer = answer;
      made = ok-of r.made (w.made.is ∙ is);
      frames = g.frames;
      bytes = refl;
      carry = rw wrote s.carried;
      out-room = s.out-room;
      marks-room = s.marks-room;
    }

-- ---- The name in the report

-- the range that the report has for the name, and what stands there
pub record NameIn (h name : List ℕ) (f : Fingerprint) : Type 0 where
  pub range : Span
  pub is : f.sni ≡ Some range
  pub inside : Inside h range
  pub bytes : take range.length (drop range.start h) ≡ name

name_in : (h name : List ℕ) (f : Fingerprint) (o : Option Part) → f.sni ≡ sni_of o → some name ≡ mapped bytes_of o → SniLies h o → NameIn h name f
unfolding sni_of mapped
name_in h name f none e same lies = absurd (none-some (sym same))
name_in h name f (some p) e same lies =
    record { range = span_of p; is = e; inside = lies.inside; bytes = lies.is ∙ sym (same_some name p.bytes same) }

-- there is a report, and it has the name so
pub record NameStands (h name : List ℕ) (r : Result Fingerprint Refusal) : Type 0 where
  pub shown : Fingerprint
  pub there : r ≡ Ok shown
  pub named : NameIn h name shown

-- IN WHAT WAS JOINED THE NAME STANDS WHERE THE REPORT SAYS
pub name-stands : {s : Handed} {n : ℕ} {r : Greeted} {hello out : List ℕ} → Arrived s n r hello out
    → NameStands (take n out) s.name r.report
unfolding shown profile_likeness likeness
name-stands {s} {n} {r} {hello} {out} a =
    record {
      shown = shown (report a.value);
      there = a.shows;
      named = name_in (take n out) s.name (shown (report a.value)) (report a.value).sni refl a.reported.name a.ranges.sni-lies;
    }

-- ---- The run

module _ {s t : Handed} {marks marks₁ marks₂ : List ℕ} {r : Outcome} {hello out hello₂ out₂ : List ℕ}
    (v : Went s marks r.first hello out marks₁) (w : Went t marks₁ r.second hello₂ out₂ marks₂)
    (scid-bytes : Bytes s.scid) (tape-bytes : Bytes s.tape) (scid-bytes₂ : Bytes t.scid) (tape-bytes₂ : Bytes t.tape)
    (verdict : r.alike ≡ alike (read (left_in r.first out)) (read (left_in r.second out₂))) where
  run-demand : (c : Carried s marks r.first hello) (d : Carried t marks₁ r.second hello₂)
      → RunDemand s t c.answer.length d.answer.length r hello out hello₂ out₂
  run-demand c d =
      let demand = third-demand (greeting v c) (greeting w d) (sent v c scid-bytes tape-bytes) (sent w d scid-bytes₂ tape-bytes₂) in
      let same = verdict ∙ ap₂ (λ (a b : List ℕ). alike (read a) (read b)) (received v c) (received w d) in
      record {
        first = arrived v c demand.first;
        second = arrived w d demand.second;
        verdict = (λ e. demand.verdict.0 (sym same ∙ e), λ e. same ∙ demand.verdict.1 e);
      }

  -- the second side gets the marks as the first left them
  pub ran : Ran s t marks r hello out hello₂ out₂ marks₂
  ran =
      let marked = v.joined.marked in
      record {
        first = subst (λ (m : List ℕ). Went s marks r.first hello out m) marked v;
        second = subst (λ (m : List ℕ). Went t m r.second hello₂ out₂ marks₂) marked w;
        verdict = verdict;
        demand = λ c d. run-demand c (subst (λ (m : List ℕ). Carried t m r.second hello₂) (sym marked) d);
      }
