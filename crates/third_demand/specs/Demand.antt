-- The third demand (document 01, "The third demand's words"): what it speaks of, and what it says.
use Rattle.std.specs.Prelude.{ℕ, ◌-◌, ◌≤◌, ◌≡◌, ◌↔◌, true, List, [], ◌++◌, length, take, replicate}
use Rattle.std.proofs.Math.Option.{some}
use Rattle.wire.specs.Answer.{Answer, result, refused}
use Rattle.wire.specs.Numbers.{Bytes}
use Rattle.profiles.specs.Profile.{Profile, for_browser}
use Rattle.profiles.specs.Sizes.{session_length}
use Rattle.frames.specs.Frame.{Frame, encode_all}
use Rattle.frames.specs.Join.{limit, join_of, out_after, marks_after}
use Rattle.frames.specs.Lists.{Carry}
use Rattle.tls.specs.Make.{make_of, made_bytes}
use Rattle.tls.specs.declared.Hello.{Hello}
use Rattle.fingerprint.specs.ClientHello.{ClientHello}
use Rattle.fingerprint.specs.Reader.{read}
use Rattle.fingerprint.specs.Report.{Report, report}
use Rattle.fingerprint.specs.InRange.{InRange}
use Rattle.alike.specs.Alike.{Likeness, likeness, alike, Same}
use Rattle.laws_read_back.specs.Shown.{profile_ids}

-- ---- What a report says of a made hello

-- what a profile and a name are known by: session id length, the name, the profile's lists, its extension types, and its parameter ids,
-- "where each id that is 27 mod 31, GREASE too, counts as 27"
unfoldable pub profile_likeness : Profile → List ℕ → Likeness
profile_likeness p name = record {
  session_id_length = session_length p;
  name = some name;
  cipher_suites = p.cipher_suites;
  supported_groups = p.supported_groups;
  key_share_groups = p.key_share_groups;
  signature_algorithms = p.signature_algorithms;
  supported_versions = p.supported_versions;
  alpn = p.alpn;
  extensions = p.extensions_order;
  transport_param_ids = profile_ids p;
}

-- the report has the profile's lists in order, and the name; "Types and ids of report and profile are compared as in Alike": each stands as
-- often in the one as in the other, so that none is missing and none is added
abbrev pub Reported : Profile → List ℕ → Report → Type 0
Reported p name r = Same (profile_likeness p name) (likeness r)

-- ---- One greeting

-- what the maker was called with, the frames in which its hello is sent, and what output and marks held before the joiner was called
pub record Greeting : Type 0 where
  pub browser : ℕ
  pub name : List ℕ
  pub scid : List ℕ
  pub tape : List ℕ
  pub room : ℕ
  pub frames : List Frame
  pub out : List ℕ
  pub marks : List ℕ

-- the hello that the maker makes
abbrev pub hello_of : Greeting → List ℕ
hello_of g = made_bytes g.browser g.name g.scid g.tape

-- what the joiner answers, and what it leaves: it "gets each hello's whole list in one call"
abbrev pub joined_of : Greeting → Answer ℕ
joined_of g = join_of (encode_all g.frames) g.out g.marks

abbrev pub output_of : Greeting → List ℕ
output_of g = out_after (encode_all g.frames) g.out g.marks

-- the front part of an output, as long as the joiner's result; none where it refused
abbrev pub front_of : Answer ℕ → List ℕ → List ℕ
front_of (result end) out = take end out
front_of (refused n) out = []

-- "reader and Alike get that front part of the output as the joiner left it"
abbrev pub received_of : Greeting → List ℕ
received_of g = front_of (joined_of g) (output_of g)

-- the maker made the hello, with an output of that room, from bytes
pub record MadeHello (g : Greeting) : Type 0 where
  pub answer : Hello
  pub is : make_of g.browser g.name g.scid g.tape g.room ≡ result answer
  pub scid-bytes : Bytes g.scid
  pub tape-bytes : Bytes g.tape

-- It is sent in frames that are whole, agree with it, end within it and cover it. The joiner's buffers are long enough for its question 10,
-- and hold anything.
pub record Sent (g : Greeting) : Type 0 where
  pub made : MadeHello g
  pub carried : Carry g.frames (hello_of g)
  pub out-room : limit ≤ length g.out
  pub marks-room : limit ≤ length g.marks

-- The joiner gives the hello's length and leaves the hello, then zeros, and 1 for each of its places in the marks. The reader accepts the
-- front part of the output, its report shows profile and name, and its names stand there where their ranges say.
pub record Arrives (g : Greeting) : Type 0 where
  pub joined : joined_of g ≡ result (length (hello_of g))
  pub output : output_of g ≡ hello_of g ++ replicate (length g.out - length (hello_of g)) 0
  pub marked :
      marks_after (encode_all g.frames) g.out g.marks
      ≡ replicate (length (hello_of g)) 1 ++ replicate (length g.marks - length (hello_of g)) 0
  pub exactly : received_of g ≡ hello_of g
  pub value : ClientHello
  pub accepted : read (received_of g) ≡ result value
  pub reported : Reported (for_browser g.browser) g.name (report value)
  pub ranges : InRange (received_of g) (report value)

-- ---- Two greetings

-- "It is one claim about two whole lists and not one for each frame or call."
pub record ThirdDemand (g h : Greeting) : Type 0 where
  pub first : Arrives g
  pub second : Arrives h
  pub verdict : alike (read (received_of g)) (read (received_of h)) ≡ true ↔ ((g.browser ≡ h.browser) × (g.name ≡ h.name))
