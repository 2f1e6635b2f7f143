-- Closed pairs of hellos: what the definition says of them. The contract of `alike` is an equation with it, so a program that answers one
-- of them otherwise does not meet it; the comments name such programs as ruled out. Assumes nothing.
use Prim.Native.Nat.{ℕ}
use mathlib.Core.Path.{◌≡◌, refl}
use mathlib.Core.Bool.{true, false}
use mathlib.Core.List.{List, [], ◌∷◌, ◌++◌, map}
use Rattle.wire.specs.Numbers.{digits, number, number_on}
use Rattle.wire.specs.Vectors.{vector}
use Rattle.wire.specs.Sums.{total, count, any, member, distinct, equally_often, same_counts}
use Rattle.varint.specs.Varint.{class_at, read_of}
use Rattle.fingerprint_bodies.specs.Entries.{bind, mapped, taken, number_at, vector_at, whole, at_least, at_most, first, entries, all_entries}
use Rattle.fingerprint_bodies.specs.Body.{kind, encode_body}
use Rattle.fingerprint_bodies.specs.Forms.{words_in, even_words, word_list, one_name, some_names, protocol_names, varint_at, one_parameter, transport_parameters, body_of, ids_new, within_counts}
use Rattle.fingerprint_lists.specs.Arrays.{placed}
use Rattle.fingerprint.specs.Reader.{one_extension, ask_body, extension, walk, all_extensions, after_suites, after_session, fields, read_extensions, read_body, read_fields, read}
use Rattle.fingerprint.specs.Report.{numbers_in, names_in, gathered, block_place, first_of, report}
use Rattle.fingerprint.proofs.Samples.{hello_of, hello_with, parameters_of}
use Rattle.alike.specs.Alike.{alike_id, likeness, same_list, same_name, same_lists, agree, alike}

-- two blocks of extensions
pub record Pair : Type 0 where
  pub one : List ℕ
  pub other : List ℕ

abbrev pair : List ℕ → List ℕ → Pair
pair a b = record { one = a; other = b }

-- groups, and protocol names
unfoldable pub groups_of : List ℕ → List ℕ
groups_of l = 0x00 ∷ 0x0a ∷ vector 2 (vector 2 l)

unfoldable pub protocols_of : List ℕ → List ℕ
protocols_of l = 0x00 ∷ 0x10 ∷ vector 2 (vector 2 l)

-- empty extensions
unfoldable pub empty_of : ℕ → List ℕ
empty_of t = 0x00 ∷ t ∷ 0x00 ∷ 0x00 ∷ []

abbrev pub pairs : List Pair
pairs =
    -- ids 27 and 58: each counts as 27. Ruled out: an Alike that folds ids of 26
    pair (parameters_of (0x1b ∷ 0x00 ∷ [])) (parameters_of (0x3a ∷ 0x00 ∷ []))
    -- both of them, and one; or one and another id. Ruled out: an Alike that counts ids as a set, and one that counts each once
    ∷ pair (parameters_of (0x1b ∷ 0x00 ∷ 0x3a ∷ 0x00 ∷ [])) (parameters_of (0x1b ∷ 0x00 ∷ []))
    ∷ pair (parameters_of (0x1b ∷ 0x00 ∷ 0x3a ∷ 0x00 ∷ [])) (parameters_of (0x1b ∷ 0x00 ∷ 0x01 ∷ 0x00 ∷ []))
    -- one, and none
    ∷ pair (parameters_of (0x1b ∷ 0x00 ∷ [])) (parameters_of [])
    -- ids in another order, one with a value
    ∷ pair (parameters_of (0x01 ∷ 0x00 ∷ 0x02 ∷ 0x00 ∷ [])) (parameters_of (0x02 ∷ 0x01 ∷ 0xff ∷ 0x01 ∷ 0x00 ∷ []))
    -- types in another order
    ∷ pair (empty_of 0x17 ++ empty_of 0x23) (empty_of 0x23 ++ empty_of 0x17)
    -- a type more
    ∷ pair (empty_of 0x17 ++ empty_of 0x23) (empty_of 0x17)
    -- groups in another order
    ∷ pair (groups_of (0x00 ∷ 0x1d ∷ 0x00 ∷ 0x17 ∷ [])) (groups_of (0x00 ∷ 0x17 ∷ 0x00 ∷ 0x1d ∷ []))
    -- a group 0000 at the end, where an array holds zeros
    ∷ pair (groups_of (0x00 ∷ 0x1d ∷ [])) (groups_of (0x00 ∷ 0x1d ∷ 0x00 ∷ 0x00 ∷ []))
    -- protocol names: the same ranges, other bytes
    ∷ pair (protocols_of (0x02 ∷ 0x68 ∷ 0x33 ∷ [])) (protocols_of (0x02 ∷ 0x68 ∷ 0x32 ∷ []))
    -- the same names, at another place
    ∷ pair (protocols_of (0x02 ∷ 0x68 ∷ 0x33 ∷ []) ++ empty_of 0x17) (empty_of 0x17 ++ protocols_of (0x02 ∷ 0x68 ∷ 0x33 ∷ []))
    -- a refused hello, twice: half a header
    ∷ pair (0x00 ∷ []) (0x00 ∷ [])
    ∷ []

pub verdicts :
    map (λ p. alike (read (hello_with p.one)) (read (hello_with p.other))) pairs
    ≡ true ∷ false ∷ false ∷ false ∷ true ∷ true ∷ false ∷ false ∷ false ∷ false ∷ true ∷ false ∷ []
unfolding
    groups_of protocols_of empty_of hello_of hello_with parameters_of vector digits number number_on class_at read_of read read_fields read_body whole vector_at number_at taken bind
    mapped fields at_most after_session even_words words_in after_suites at_least read_extensions all_extensions walk extension one_extension ask_body member any
    distinct kind body_of word_list one_name some_names protocol_names varint_at one_parameter transport_parameters first entries all_entries ids_new within_counts report
    block_place gathered numbers_in names_in placed first_of encode_body likeness alike_id agree same_name same_lists same_list same_counts equally_often count
    total alike
verdicts = refl

-- two suites, in another order. Ruled out: an Alike that ignores the suites
pub suites-compared :
    alike (read (hello_of [] (0x13 ∷ 0x01 ∷ 0x13 ∷ 0x02 ∷ []) [])) (read (hello_of [] (0x13 ∷ 0x02 ∷ 0x13 ∷ 0x01 ∷ []) [])) ≡ false
unfolding
    hello_of vector digits number number_on read read_fields read_body whole vector_at number_at taken bind mapped fields at_most after_session even_words words_in
    after_suites at_least read_extensions all_extensions walk report block_place gathered first_of likeness agree same_name same_lists same_list alike
suites-compared = refl
