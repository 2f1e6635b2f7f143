-- What the answers of the code's inner functions stand for. No call of document 01 cites this file.
use Rattle.std.specs.Prelude.{ℕ, ◌+◌, ◌-◌, ◌*◌, ◌≤◌, ◌<◌, ◌≡◌, Bool, false, cond, List, [], ◌∷◌, map, length, take, drop, get_or, eqb, ltb, Some, None, Result, Ok, Err, IfOk}
use Rattle.std.specs.Prelude as std
use Rattle.std.proofs.Math.Option.{Option, none, some}
use Rattle.wire.specs.Answer.{Answer, result, refused, and_then}
use Rattle.wire.specs.Refusals.{question, told_number}
use Rattle.wire.specs.declared.refusals.Refusal.{Refusal}
use Rattle.wire.specs.Front.{front}
use Rattle.wire.specs.Sums.{member}
use Rattle.profiles.specs.declared.ExtType.{ExtType}
use Rattle.fingerprint_bodies.specs.Entries.{entry, or_empty, whole}
use Rattle.fingerprint_bodies.specs.Body.{Body, Kind, kind, name, groups, algorithms, protocols, versions, shares, parameters, other}
use Rattle.fingerprint_bodies.specs.Forms.{words_in, word_list, server_name, protocol_names, key_shares, group_of, body_of}
use Rattle.fingerprint_bodies.specs.Code.{asked}
use Rattle.fingerprint_parameters.specs.Code.{ids_in, Marked}
use Rattle.fingerprint_lists.specs.Arrays.{span, padded, Part, part, placed}
use Rattle.fingerprint_lists.specs.declared.Span.{Span}
use Rattle.fingerprint.specs.ClientHello.{Extension, ClientHello, type_of, encode_extensions}
use Rattle.fingerprint.specs.Reader.{Fields, in_form, with_extensions, one_extension, extension, walk, all_extensions, after_suites, after_session, fields, read_fields, read}
use Rattle.fingerprint.specs.Report.{numbers_in, names_in, gathered, block_place, report, shown}
use Rattle.fingerprint.specs.declared.head.Head.{Head}
use Rattle.fingerprint.specs.declared.walk.Survey.{Survey}
use Rattle.fingerprint.specs.declared.walk.Header.{Header}
use Rattle.fingerprint.specs.declared.walk.Step.{Step}
use Rattle.fingerprint.specs.declared.walk.Kind as code
use Rattle.fingerprint.specs.declared.walk.Kind.TheVariants as named
use Rattle.fingerprint.specs.declared.Fingerprint.{Fingerprint}

-- the bytes of a part of the hello
abbrev pub part_of : List ℕ → Span → List ℕ
part_of h s = take s.length (drop s.start h)

-- ---- The head

-- the fields that were read, where the suites stand, and where the first extension does
pub record FieldsFound (h : List ℕ) (head : Head) : Type 0 where
  pub found : Fields
  pub is : read_fields h ≡ result found
  pub block-is : found.block ≡ drop head.block h
  pub session-is : length found.session_id ≡ head.session
  pub suites-are : found.cipher_suites ≡ words_in (part_of h head.suites)
  pub suites-even : head.suites.length ≡ 2 * length found.cipher_suites
  pub place : head.block ≡ 44 + head.session + head.suites.length + length found.compression
  pub suites-inside : head.suites.start + head.suites.length ≤ length h
  pub inside : head.block ≤ length h
  pub short : length h ≤ 16384

abbrev pub FieldsAs : Result Head Refusal → List ℕ → Type 0
FieldsAs (Ok f) h = FieldsFound h f
FieldsAs (Err e) h = read_fields h ≡ refused (question e)

-- the same where only a field or the block can be what is not in its form
abbrev pub FormAs : std.Option Head → List ℕ → Type 0
FormAs (Some f) h = FieldsFound h f
FormAs None h = read_fields h ≡ refused 19

-- the same of a hello that has at most 64 suites: what the reader goes on to
pub record HeadFound (h : List ℕ) (head : Head) : Type 0 where
  pub found : Fields
  pub is : read h ≡ and_then (all_extensions (drop head.block h)) (λ es. result (with_extensions found es))
  pub session-is : length found.session_id ≡ head.session
  pub suites-are : found.cipher_suites ≡ words_in (part_of h head.suites)
  pub suites-even : head.suites.length ≡ 2 * length found.cipher_suites
  pub place : head.block ≡ 44 + head.session + head.suites.length + length found.compression
  pub suites-inside : head.suites.start + head.suites.length ≤ length h
  pub suites-few : head.suites.length ≤ 128
  pub inside : head.block ≤ length h
  pub short : length h ≤ 16384

abbrev pub HeadAs : Result Head Refusal → List ℕ → Type 0
HeadAs (Ok f) h = HeadFound h f
HeadAs (Err e) h = read h ≡ refused (question e)

-- the fields of a hello of at most 16,384 bytes are those after its first four bytes
pub record BeforeFields (h : List ℕ) : Type 0 where
  pub is : read_fields h ≡ in_form (fields (drop 4 h)) 19 result
  pub short : length h ≤ 16384

-- the same from the suites on, after a session id of so many bytes
pub record BeforeSuites (h : List ℕ) (session : ℕ) : Type 0 where
  pub version : List ℕ
  pub random : List ℕ
  pub id : List ℕ
  pub is : read_fields h ≡ in_form (after_session version random id (drop (39 + session) h)) 19 result
  pub session-is : length id ≡ session
  pub inside : 39 + session ≤ length h
  pub short : length h ≤ 16384

-- from the compression on, whatever stands before: the compression, and where the first extension stands
pub record BlockFound (h : List ℕ) (at block : ℕ) : Type 0 where
  pub compression : List ℕ
  pub is : (version random id suites : List ℕ) → after_suites version random id suites (drop at h) ≡ some (record {
    version = version;
    random = random;
    session_id = id;
    cipher_suites = suites;
    compression = compression;
    block = drop block h;
  })
  pub place : block ≡ at + 3 + length compression
  pub inside : block ≤ length h

abbrev pub BlockAs : std.Option ℕ → List ℕ → ℕ → Type 0
BlockAs (Some b) h at = BlockFound h at b
BlockAs None h at = (version random id suites : List ℕ) → after_suites version random id suites (drop at h) ≡ none

-- a list from a place on whose length reaches exactly the hello's end, and where its bytes stand
abbrev pub EndAs : std.Option ℕ → List ℕ → ℕ → Type 0
EndAs (Some b) h at = (whole 2 (drop at h) ≡ some (drop b h)) × (b ≡ at + 2) × (b ≤ length h)
EndAs None h at = whole 2 (drop at h) ≡ none

-- ---- The walk's notes

-- the place of each kind in a survey's bodies
abbrev pub slot : Kind → ℕ
slot name = 0
slot groups = 1
slot algorithms = 2
slot protocols = 3
slot versions = 4
slot shares = 5
slot parameters = 6
slot other = 7

-- the kind that the code names
abbrev pub meant : code.Kind → Kind
meant named.Name = name
meant named.Groups = groups
meant named.Algorithms = algorithms
meant named.Protocols = protocols
meant named.Versions = versions
meant named.Shares = shares
meant named.Parameters = parameters
meant named.Other = other

-- the kind of a place; a place that none has is of bodies that are not read
abbrev pub kind_at : ℕ → Kind
kind_at n =
    cond (eqb n 0) name
    (cond (eqb n 1) groups
    (cond (eqb n 2) algorithms
    (cond (eqb n 3) protocols
    (cond (eqb n 4) versions
    (cond (eqb n 5) shares
    (cond (eqb n 6) parameters
    other))))))

abbrev pub name_at : ℕ → Option (List ℕ) → List Part
name_at at none = []
name_at at (some n) = part at n ∷ []

-- what the report has of a kind, from the extensions that begin at a place of the hello, is what the bytes of a body at a place hold
abbrev pub KindShows : Kind → ℕ → List Extension → ℕ → List ℕ → Type 0
KindShows name block es at bs = gathered names_in 0x0000 block es ≡ name_at (at + 5) (server_name bs)
KindShows groups block es at bs = gathered numbers_in 0x000a block es ≡ or_empty (word_list 2 bs)
KindShows algorithms block es at bs = gathered numbers_in 0x000d block es ≡ or_empty (word_list 2 bs)
KindShows protocols block es at bs = gathered names_in 0x0010 block es ≡ placed (at + 2) (or_empty (protocol_names bs))
KindShows versions block es at bs = gathered numbers_in 0x002b block es ≡ or_empty (word_list 1 bs)
KindShows shares block es at bs = gathered numbers_in 0x0033 block es ≡ map group_of (or_empty (key_shares bs))
KindShows parameters block es at bs = gathered numbers_in 0x0039 block es ≡ ids_in bs
KindShows other block es at bs = Unit {0}

-- the extension whose header stands at a place
pub record HeaderFound (h : List ℕ) (at t start end : ℕ) : Type 0 where
  pub is : one_extension (drop at h) ≡ some (entry (record { type = t; bytes = take (end - start) (drop start h) }) (drop end h))
  pub after-header : start ≡ at + 4
  pub forward : start ≤ end
  pub inside : end ≤ length h

abbrev pub HeaderAs : std.Option Header → List ℕ → ℕ → Type 0
HeaderAs (Some e) h at = HeaderFound h at e.ext_type e.start e.end
HeaderAs None h at = one_extension (drop at h) ≡ none

-- the header at a place and the place after it, or none and the same place
abbrev pub GivesHeader : List ℕ → ℕ → std.Option Header → ℕ → Type 0
GivesHeader h at (Some e) to = HeaderFound h at e.ext_type e.start e.end × (to ≡ e.end)
GivesHeader h at None to = (one_extension (drop at h) ≡ none) × (to ≡ at)

-- the parameter ids that a body of a kind holds
abbrev pub ids_held : Kind → List ℕ → List ℕ
ids_held name bs = []
ids_held groups bs = []
ids_held algorithms bs = []
ids_held protocols bs = []
ids_held versions bs = []
ids_held shares bs = []
ids_held parameters bs = ids_in bs
ids_held other bs = []

-- so many they are, and they were written over the front of an array
pub record Gained (k : Kind) (bs : List ℕ) (n : ℕ) (old new : List ℕ) : Type 0 where
  pub count-is : n ≡ length (ids_held k bs)
  pub output : new ≡ front (ids_held k bs) old
  pub size : length new ≡ 64

-- the first "no" of the questions of a body, or its ids
pub record BodyAsked (k : Kind) (bs : List ℕ) (r : Result ℕ Refusal) (old new : List ℕ) : Type 0 where
  pub is : told_number r ≡ asked k bs
  pub gained : IfOk r (λ n. Gained k bs n old new)

-- the next extension at a place of the hello, after others of these types, and the kind of its body
pub record StepFound (h : List ℕ) (at t : ℕ) (k : Kind) (start end : ℕ) (known : List ℕ) : Type 0 where
  pub found : Body
  pub body_is : body_of (kind t) (take (end - start) (drop start h)) ≡ some found
  pub is : (done : List Extension) → map type_of done ≡ known → extension done (drop at h) ≡ result (entry (record { type = t; body = found }) (drop end h))
  pub good : asked (kind t) (take (end - start) (drop start h)) ≡ 0
  pub new : member t known ≡ false
  pub kind-is : k ≡ kind t
  pub room : length known < 64
  pub after-header : start ≡ at + 4
  pub forward : start ≤ end
  pub inside : end ≤ length h

abbrev pub StepAs : Result Step Refusal → List ℕ → Header → List ℕ → List ℕ → List ℕ → Type 0
StepAs (Ok s) h e known old new =
    StepFound h (e.start - 4) e.ext_type (meant s.kind) e.start e.end known × Gained (kind e.ext_type) (take (e.end - e.start) (drop e.start h)) s.ids old new
StepAs (Err r) h e known old new = (done : List Extension) → map type_of done ≡ known → extension done (drop (e.start - 4) h) ≡ refused (question r)

-- a note lies inside the hello; the body there was found good, or the extension is not there and the note is empty
pub record Noted (h : List ℕ) (block : ℕ) (es : List Extension) (k : Kind) (s : Span) : Type 0 where
  pub inside : s.start + s.length ≤ length h
  pub good : 0 < s.length → asked k (part_of h s) ≡ 0
  pub shows : KindShows k block es s.start (part_of h s)

-- the parameter ids of these extensions, in an array, and their count
pub record IdsFound (block : ℕ) (es : List Extension) (n : ℕ) (ids : List ℕ) : Type 0 where
  pub are : ids ≡ padded 64 0 (gathered numbers_in 0x0039 block es)
  pub count-is : n ≡ length (gathered numbers_in 0x0039 block es)

pub record Surveyed (h : List ℕ) (block : ℕ) (r : Survey) (types ids : List ℕ) : Type 0 where
  pub found : List Extension
  pub is : all_extensions (drop block h) ≡ result found
  pub count-is : r.count ≡ length found
  pub few : length found ≤ 64
  pub types_are : types ≡ padded 64 0 (map type_of found)
  pub ids-are : IdsFound block found r.id_count ids
  pub notes : (k : Kind) → Noted h block found k (get_or r.bodies (slot k) (span 0 0))

-- the walk from a place on, after the extensions that were found
unfoldable pub onward : List ℕ → ℕ → List Extension → ℕ → Answer (List Extension)
onward h block found at = walk (length (drop block h) - length found) found (drop at h)

-- the walk's state before each extension
pub record Walking (h : List ℕ) (block at count : ℕ) (types : List ℕ) (marks : List Bool) (bodies : List Span) (ids : List ℕ) (id-count : ℕ) : Type 0 where
  pub found : List Extension
  pub is : all_extensions (drop block h) ≡ onward h block found at
  pub place : at ≡ block + length (encode_extensions found)
  pub inside : at ≤ length h
  pub count-is : count ≡ length found
  pub few : length found ≤ 64
  pub types_are : types ≡ padded 64 0 (map type_of found)
  pub marks-long : length marks ≡ 64
  pub marked : Marked marks (map type_of found)
  pub bodies-long : length bodies ≡ 8
  pub ids-long : length ids ≡ 64
  pub ids-are : IdsFound block found id-count ids
  pub notes : (k : Kind) → Noted h block found k (get_or bodies (slot k) (span 0 0))

-- what the walk found where it came to the end, or the refusal
abbrev pub SurveyAs : List ℕ → ℕ → Result Survey Refusal → List ℕ → List ℕ → Type 0
SurveyAs h block (Ok r) types ids = Surveyed h block r types ids
SurveyAs h block (Err e) types ids = all_extensions (drop block h) ≡ refused (question e)

-- the head and what the walk found, or the reader's refusal
abbrev pub ReadAs : List ℕ → Result (Head × Survey) Refusal → List ℕ → List ℕ → Type 0
ReadAs h (Ok (head, r)) types ids = HeadFound h head × Surveyed h head.block r types ids
ReadAs h (Err e) types ids = read h ≡ refused (question e)

-- ---- The report from what was found

abbrev pub note_of : Survey → Kind → Span
note_of r k = get_or r.bodies (slot k) (span 0 0)

-- the name in a body of server_name: after the list's length, the name's type and its own length
unfoldable pub name_in : Span → std.Option Span
name_in s = cond (ltb s.length 5) None (Some (span (s.start + 5) (s.length - 5)))

-- what the head and the walk found lies inside the hello, and each body was found good
pub record Readable (h : List ℕ) (head : Head) (r : Survey) : Type 0 where
  pub suites-inside : head.suites.start + head.suites.length ≤ length h
  pub suites-few : head.suites.length ≤ 128
  pub short : length h ≤ 16384
  pub inside : (k : Kind) → (note_of r k).start + (note_of r k).length ≤ length h
  pub good : (k : Kind) → 0 < (note_of r k).length → asked k (part_of h (note_of r k)) ≡ 0

-- what was found is that of a ClientHello
pub record FoundOf (h : List ℕ) (head : Head) (r : Survey) (types ids : List ℕ) (v : ClientHello) : Type 0 where
  pub session-is : length v.session_id ≡ head.session
  pub suites-are : v.cipher_suites ≡ words_in (part_of h head.suites)
  pub count-is : r.count ≡ length v.extensions
  pub types_are : types ≡ padded 64 0 (map type_of v.extensions)
  pub ids-are : IdsFound (block_place v) v.extensions r.id_count ids
  pub notes : (k : Kind) → Noted h (block_place v) v.extensions k (note_of r k)

-- the report of that ClientHello
pub record ReportAs (h : List ℕ) (head : Head) (found : Survey) (types ids : List ℕ) (r : Fingerprint) : Type 0 where
  pub is : (v : ClientHello) → FoundOf h head found types ids v → r ≡ shown (report v)

-- the number of a type
abbrev pub type_number : ExtType → ℕ
type_number t = t.0
