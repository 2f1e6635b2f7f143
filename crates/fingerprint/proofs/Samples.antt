-- Closed inputs: what the definition says of some hellos. Each call's contract is an equation with it, so a program that answers one of
-- them otherwise does not meet it; the comments name such programs as ruled out. Assumes nothing.
use Prim.Native.Nat.{ℕ, zero, suc}
use mathlib.Core.Path.{◌≡◌, refl}
use mathlib.Core.List.{List, [], ◌∷◌, ◌++◌, map}
use mathlib.Core.Option.{some}
use lib.ListN.{replicate}
use Rattle.wire.specs.Answer.{result, refused}
use Rattle.wire.specs.Numbers.{digits, number, number_on}
use Rattle.wire.specs.Vectors.{vector, words}
use Rattle.wire.specs.Sums.{any, member, distinct}
use Rattle.varint.specs.Varint.{class_at, read_of}
use Rattle.fingerprint_bodies.specs.Entries.{bind, mapped, taken, number_at, vector_at, whole, at_least, at_most, first, entries, all_entries}
use Rattle.fingerprint_bodies.specs.Body.{kind, encode_body}
use Rattle.fingerprint_bodies.specs.Forms.{words_in, even_words, word_list, one_entry, server_name, one_share, key_shares, varint_at, one_parameter, transport_parameters, body_of, ids_new, within_counts}
use Rattle.fingerprint_parameters.proofs.Samples.{ids_below, last_twice}
use Rattle.fingerprint_lists.specs.Arrays.{part}
use Rattle.fingerprint.specs.Reader.{one_extension, ask_body, extension, walk, all_extensions, after_suites, after_session, fields, read_extensions, read_body, read_fields, read}
use Rattle.fingerprint.specs.Report.{numbers_in, names_in, gathered, block_place, first_of, report, empty_report, shown, parsed_of, told_report, number_of}
use Rattle.fingerprint.specs.Calls.{bytes_or, name_or, insert, insert_all, rising, extension_set}

-- a session id, suites, one compression byte and a block of extensions; all lengths are true
unfoldable pub hello_of : List ℕ → List ℕ → List ℕ → List ℕ
hello_of session suites block =
    0x01
    ∷ vector 3
    ((0x03 ∷ 0x03 ∷ replicate 32 0x20)
    ++ (vector 1 session ++ (vector 2 suites ++ (0x01 ∷ 0x00 ∷ vector 2 block))))

-- no session id, and one suite
unfoldable pub hello_with : List ℕ → List ℕ
hello_with block = hello_of [] (0x13 ∷ 0x01 ∷ []) block

-- transport parameters
unfoldable pub parameters_of : List ℕ → List ℕ
parameters_of body = 0x00 ∷ 0x39 ∷ vector 2 body

-- so many empty extensions, each of another type
unfoldable pub empty_extensions : ℕ → List ℕ
empty_extensions zero = []
empty_extensions (suc n) = empty_extensions n ++ (0xff ∷ n ∷ 0x00 ∷ 0x00 ∷ [])

-- ---- which number

-- no byte, and a length that is not true; a session id of 33 bytes, and of 32; 65 suites, and 64. Ruled out: a reader whose every refusal
-- is 19, and one that takes a session id of 33
pub heads :
    map (λ h. number_of (read h))
    ([]
    ∷ (0x01 ∷ 0x00 ∷ 0x00 ∷ 0x01 ∷ [])
    ∷ hello_of (replicate 33 0x00) (0x13 ∷ 0x01 ∷ []) []
    ∷ hello_of (replicate 32 0x00) (0x13 ∷ 0x01 ∷ []) []
    ∷ hello_of [] (replicate 130 0x13) []
    ∷ hello_of [] (replicate 128 0x13) []
    ∷ [])
    ≡ 17 ∷ 18 ∷ 19 ∷ 0 ∷ 23 ∷ 0 ∷ []
unfolding
    hello_of vector digits number number_on read read_fields read_body whole vector_at number_at taken bind fields at_most after_session even_words words_in after_suites
    at_least read_extensions all_extensions walk number_of
heads = refl

abbrev pub blocks : List (List ℕ)
blocks =
    -- 20 before 21: a type that stands twice, the second with a body that is not there
    (0x00 ∷ 0x17 ∷ 0x00 ∷ 0x00 ∷ 0x00 ∷ 0x17 ∷ 0x00 ∷ 0x01 ∷ [])
    ∷ (0x00 ∷ 0x17 ∷ 0x00 ∷ 0x00 ∷ 0x00 ∷ 0x17 ∷ 0x00 ∷ 0x00 ∷ [])
    -- a byte after the last extension
    ∷ (0x00 ∷ 0x17 ∷ 0x00 ∷ 0x00 ∷ 0x00 ∷ [])
    -- a key that is not there
    ∷ (0x00 ∷ 0x33 ∷ 0x00 ∷ 0x06 ∷ 0x00 ∷ 0x04 ∷ 0x00 ∷ 0x1d ∷ 0x00 ∷ 0x20 ∷ [])
    -- half a group at the end
    ∷ (0x00 ∷ 0x0a ∷ 0x00 ∷ 0x05 ∷ 0x00 ∷ 0x03 ∷ 0x00 ∷ 0x1d ∷ 0x00 ∷ [])
    -- a body that would swallow the next extension
    ∷ (0x00 ∷ 0x0a ∷ 0x00 ∷ 0x08 ∷ 0x00 ∷ 0x02 ∷ 0x00 ∷ 0x1d ∷ 0x00 ∷ 0x17 ∷ 0x00 ∷ 0x00 ∷ [])
    -- 21 before 22: an id that stands twice, then half a varint
    ∷ parameters_of (0x01 ∷ 0x00 ∷ 0x01 ∷ 0x00 ∷ 0x40 ∷ [])
    -- an id that stands twice, in another width
    ∷ parameters_of (0x01 ∷ 0x00 ∷ 0x40 ∷ 0x01 ∷ 0x00 ∷ [])
    -- 22 before 23: of 66 ids the last two are equal; 65 that are not
    ∷ parameters_of last_twice
    ∷ parameters_of (ids_below 64 ++ (0x40 ∷ 0x40 ∷ 0x00 ∷ []))
    ∷ parameters_of (ids_below 64)
    -- 64 extensions, and 65. Ruled out: a reader that refuses the 64th
    ∷ empty_extensions 64
    ∷ empty_extensions 65
    ∷ []

pub numbers : map (λ block. number_of (read (hello_with block))) blocks ≡ 20 ∷ 21 ∷ 20 ∷ 21 ∷ 21 ∷ 21 ∷ 21 ∷ 22 ∷ 22 ∷ 23 ∷ 0 ∷ 0 ∷ 23 ∷ []
unfolding
    hello_of hello_with empty_extensions ids_below parameters_of vector digits number number_on class_at read_of read read_fields read_body whole vector_at number_at taken bind mapped fields at_most
    after_session even_words words_in after_suites at_least read_extensions all_extensions walk extension one_extension ask_body member any distinct kind body_of
    word_list one_share key_shares varint_at one_parameter transport_parameters first entries all_entries ids_new within_counts number_of
numbers = refl

-- ---- what is handed out

-- a name of one byte, and one group
abbrev pub named : List ℕ
named = 0x00 ∷ 0x00 ∷ 0x00 ∷ 0x06 ∷ 0x00 ∷ 0x04 ∷ 0x00 ∷ 0x00 ∷ 0x01 ∷ 0x61 ∷ []

abbrev pub grouped : List ℕ
grouped = 0x00 ∷ 0x0a ∷ 0x00 ∷ 0x04 ∷ 0x00 ∷ 0x02 ∷ 0x00 ∷ 0x1d ∷ []

-- the report has this hello's lists, and the name where it stands. Ruled out: the same suites for every hello; a name from its length on
pub reported : parsed_of (read (hello_of (0x2a ∷ []) (0x13 ∷ 0x02 ∷ 0xc0 ∷ 0x2b ∷ []) (grouped ++ named))) ≡ result (shown (record {
  session_id_length = 1;
  cipher_suites = 0x1302 ∷ 0xc02b ∷ [];
  extensions = 0x000a ∷ 0x0000 ∷ [];
  supported_groups = 0x001d ∷ [];
  key_share_groups = [];
  signature_algorithms = [];
  supported_versions = [];
  alpn = [];
  sni = some (part 67 (0x61 ∷ []));
  transport_param_ids = [];
}))
unfolding
    hello_of hello_with vector digits number number_on read read_fields read_body whole vector_at number_at taken bind mapped fields at_most after_session even_words words_in
    after_suites at_least read_extensions all_extensions walk extension one_extension ask_body member any kind body_of word_list one_entry server_name ids_new
    within_counts parsed_of report block_place gathered numbers_in names_in first_of encode_body words
reported = refl

-- a hello that is refused for what stands after its name: groups with no body
abbrev pub refused_late : List ℕ
refused_late = hello_with (named ++ (0x00 ∷ 0x0a ∷ 0x00 ∷ 0x00 ∷ []))

refused-late : read refused_late ≡ refused 21
unfolding
    hello_of hello_with vector digits number number_on read read_fields read_body whole vector_at number_at taken bind mapped fields at_most after_session even_words words_in
    after_suites at_least read_extensions all_extensions walk extension one_extension ask_body member any kind body_of word_list one_entry server_name ids_new
    within_counts
refused-late = refl

-- an empty report. Ruled out: one of what was read before the refusal
pub reported-empty : told_report (read refused_late) ≡ record { number = 21; values = shown empty_report }
unfolding parsed_of
reported-empty = rw refused-late

-- the name's bytes. Ruled out: a name from its length on
pub name-given : name_or (0x64 ∷ []) (read (hello_with named)) ≡ 0x61 ∷ []
unfolding
    hello_of hello_with vector digits number number_on read read_fields read_body whole vector_at number_at taken bind mapped fields at_most after_session even_words words_in
    after_suites at_least read_extensions all_extensions walk extension one_extension ask_body member any kind body_of one_entry server_name ids_new within_counts
    report block_place gathered names_in first_of encode_body name_or bytes_or
name-given = refl

-- the default. Ruled out: the name of a refused hello
pub name-default : name_or (0x64 ∷ []) (read refused_late) ≡ 0x64 ∷ []
unfolding name_or
name-default = rw refused-late

-- types in rising order. Ruled out: in falling order, or in the order sent
pub set-rises : extension_set (read (hello_with (0xfe ∷ 0x0d ∷ 0x00 ∷ 0x00 ∷ 0x00 ∷ 0x17 ∷ 0x00 ∷ 0x00 ∷ []))) ≡ 0x0017 ∷ 0xfe0d ∷ []
unfolding
    hello_of hello_with vector digits number number_on read read_fields read_body whole vector_at number_at taken bind fields at_most after_session even_words words_in after_suites
    at_least read_extensions all_extensions walk extension one_extension ask_body member any kind body_of ids_new within_counts report extension_set rising
    insert_all insert
set-rises = refl

-- none. Ruled out: the types of a refused hello
pub set-empty : extension_set (read refused_late) ≡ []
unfolding extension_set
set-empty = rw refused-late
