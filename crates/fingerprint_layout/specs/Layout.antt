-- A report in the layout of include/crustdelta.h: the fields of `Fingerprint` one after the other, each number little endian.
use Rattle.std.specs.Prelude.{ℕ, zero, suc, ◌/◌, ◌%◌, ◌≡◌, List, [], ◌∷◌, ◌++◌, map, length, leb, Option, Some, None}
use Rattle.wire.specs.Answer.{Answer, result, ask, and_then, unless_refused, coded, told}
use Rattle.wire.specs.Front.{front}
use Rattle.fingerprint_lists.specs.declared.Span.{Span}
use Rattle.fingerprint.specs.Code.{type_number}
use Rattle.fingerprint.specs.InRange.{group_number}
use Rattle.fingerprint.specs.ClientHello.{ClientHello}
use Rattle.fingerprint.specs.Report.{shown, empty_report, parsed_of}
use Rattle.fingerprint.specs.declared.Fingerprint.{Fingerprint}

-- the n low bytes of a number, the lowest first
unfoldable pub little : ℕ → ℕ → List ℕ
little zero v = []
little (suc n) v = v % 256 ∷ little n (v / 256)

-- numbers of so many bytes each, one after the other
unfoldable pub littles : ℕ → List ℕ → List ℕ
littles width [] = []
littles width (v ∷ vs) = little width v ++ littles width vs

-- a range is its first place and its length
unfoldable pub ranges : List Span → List ℕ
ranges [] = []
ranges (s ∷ ss) = s.start ∷ s.length ∷ ranges ss

-- a name is counted, 0 or 1, and has its range; zeros where it is absent
unfoldable pub name_numbers : Option Span → List ℕ
name_numbers (Some s) = 1 ∷ s.start ∷ s.length ∷ []
name_numbers None = 0 ∷ 0 ∷ 0 ∷ []

-- the counts, and the name
unfoldable pub count_numbers : Fingerprint → List ℕ
count_numbers f =
    f.legacy_session_id_len
    ∷ f.suite_count
    ∷ f.extension_count
    ∷ f.group_count
    ∷ f.share_count
    ∷ f.algorithm_count
    ∷ f.version_count
    ∷ f.alpn_count
    ∷ f.id_count
    ∷ name_numbers f.sni

-- the lists of 16-bit numbers
unfoldable pub list_numbers : Fingerprint → List ℕ
list_numbers f =
    f.cipher_suites
    ++ (map type_number f.extensions
    ++ (map group_number f.supported_groups
    ++ (map group_number f.key_share_groups
    ++ (f.signature_algorithms
    ++ (f.supported_versions ++ ranges f.alpn)))))

-- 428 numbers of 2 bytes each, and 64 ids of 8: 1,368 bytes
unfoldable pub layout : Fingerprint → List ℕ
layout f = littles 2 (count_numbers f ++ list_numbers f) ++ littles 8 f.transport_param_ids

-- the report of a hello; where it is refused, the empty one
abbrev pub reported : Answer ClientHello → Fingerprint
reported a = (told (shown empty_report) (parsed_of a)).values

-- the length of the report; after the reader's questions: does the buffer hold it? 100, which is no number of document 01
unfoldable pub report_of : Answer ClientHello → ℕ → Answer ℕ
report_of a room = and_then a (λ v. ask (leb 1368 room) 100 (result 1368))

-- what the call answers and leaves: the report over the front of the buffer, or all of the buffer as it was
pub record ReportCoded (a : Answer ClientHello) (old : List ℕ) (r : ℕ) (new : List ℕ) : Type 0 where
  pub is : r ≡ coded (report_of a (length old))
  pub output : new ≡ unless_refused (report_of a (length old)) (λ n. front (layout (reported a)) old) old
