-- Closed hellos: where the definition says that the reader stops. The contract of `stopped_at` is an equation with it, so a program that
-- answers one of them otherwise does not meet it; the comments name such programs as ruled out. Assumes nothing.
use mathlib.Core.Path.{◌≡◌, refl}
use Prim.Native.Nat.{ℕ}
use mathlib.Core.List.{List, [], ◌∷◌, map}
use mathlib.Core.Option.{none, some}
use lib.ListN.{replicate}
use Rattle.wire.specs.Numbers.{digits, number, number_on}
use Rattle.wire.specs.Vectors.{vector}
use Rattle.wire.specs.Sums.{any, member, distinct}
use Rattle.varint.specs.Varint.{class_at, read_of}
use Rattle.wire.specs.Stops.{stopped}
use Rattle.fingerprint_bodies.specs.Entries.{bind, mapped, taken, number_at, vector_at, whole, at_least, at_most, first, entries, all_entries}
use Rattle.fingerprint_bodies.specs.Body.{kind}
use Rattle.fingerprint_bodies.specs.Forms.{words_in, even_words, word_list, one_name, some_names, protocol_names, varint_at, one_parameter, transport_parameters, body_of, ids_new, within_counts}
use Rattle.fingerprint_bodies.specs.Code.{asked, is_whole}
use Rattle.fingerprint.specs.Reader.{one_extension, ask_body, extension, after_suites, after_session, fields, read_body, read_fields}
use Rattle.fingerprint.proofs.Samples.{hello_of, hello_with, parameters_of}
use Rattle.fingerprint_stops.specs.Stops.{compression_stop, suites_stop, session_stop, field_stop, head_place, word_size, entry_size, passed, list_at, broken, most, past, repeated_from, repeated_at, in_body, body_place, walk_stops, extensions_stop, stopped_at}

-- ---- the extensions, which begin at 47

abbrev pub blocks : List (List ℕ)
blocks =
    -- an extension that says more bytes than are left
    (0x00 ∷ 0x17 ∷ 0x00 ∷ 0x00 ∷ 0x00 ∷ 0x1b ∷ 0x00 ∷ 0x01 ∷ [])
    -- a type that stands twice; the same with a second body that is not in its form. Ruled out: a place in that body
    ∷ (0x00 ∷ 0x17 ∷ 0x00 ∷ 0x00 ∷ 0x00 ∷ 0x17 ∷ 0x00 ∷ 0x00 ∷ [])
    ∷ (0x00 ∷ 0x0a ∷ 0x00 ∷ 0x04 ∷ 0x00 ∷ 0x02 ∷ 0x00 ∷ 0x1d ∷ 0x00 ∷ 0x0a ∷ 0x00 ∷ 0x01 ∷ 0x00 ∷ [])
    -- groups with no body
    ∷ (0x00 ∷ 0x0a ∷ 0x00 ∷ 0x00 ∷ [])
    -- a list's length that does not reach the body's end
    ∷ (0x00 ∷ 0x0a ∷ 0x00 ∷ 0x05 ∷ 0x00 ∷ 0x02 ∷ 0x00 ∷ 0x1d ∷ 0x00 ∷ [])
    -- a second protocol name that is cut
    ∷ (0x00 ∷ 0x10 ∷ 0x00 ∷ 0x06 ∷ 0x00 ∷ 0x04 ∷ 0x02 ∷ 0x68 ∷ 0x32 ∷ 0x05 ∷ [])
    -- a third parameter with the id of the first, in another width. Ruled out: the first
    ∷ parameters_of (0x01 ∷ 0x00 ∷ 0x02 ∷ 0x00 ∷ 0x40 ∷ 0x01 ∷ 0x00 ∷ [])
    -- 65 groups
    ∷ (0x00 ∷ 0x0a ∷ 0x00 ∷ 0x84 ∷ 0x00 ∷ 0x82 ∷ replicate 130 0x00)
    ∷ []

pub places :
    map (λ block. stopped_at (hello_with block)) blocks
    ≡ some (stopped 20 51)
    ∷ some (stopped 21 51)
    ∷ some (stopped 21 55)
    ∷ some (stopped 21 47)
    ∷ some (stopped 21 51)
    ∷ some (stopped 21 56)
    ∷ some (stopped 22 55)
    ∷ some (stopped 23 181)
    ∷ []
unfolding
    hello_of hello_with parameters_of vector digits number number_on class_at read_of read_fields read_body whole vector_at number_at taken bind mapped
    fields at_most after_session even_words words_in after_suites at_least extension one_extension ask_body member any distinct kind body_of
    word_list one_name some_names protocol_names varint_at one_parameter transport_parameters first entries all_entries ids_new within_counts
    asked is_whole word_size entry_size passed list_at broken most past repeated_from repeated_at in_body body_place walk_stops extensions_stop
    stopped_at
places = refl

pub accepted : stopped_at (hello_with []) ≡ none
unfolding
    hello_of hello_with vector digits number number_on read_fields read_body whole vector_at number_at taken bind fields at_most after_session even_words
    words_in after_suites at_least walk_stops extensions_stop stopped_at
accepted = refl

-- ---- what stands before them

-- no byte; a length that is not true; a session id of 33 bytes; half a suite; 65 suites. Ruled out: the 64th suite
pub fields-places :
    map stopped_at
    ([]
    ∷ (0x01 ∷ 0x00 ∷ 0x00 ∷ 0x01 ∷ [])
    ∷ hello_of (replicate 33 0x00) (0x13 ∷ 0x01 ∷ []) []
    ∷ hello_of (0x00 ∷ []) (0x13 ∷ 0x01 ∷ 0x13 ∷ []) []
    ∷ hello_of [] (replicate 130 0x13) []
    ∷ [])
    ≡ some (stopped 17 0)
    ∷ some (stopped 18 1)
    ∷ some (stopped 19 38)
    ∷ some (stopped 19 40)
    ∷ some (stopped 23 169)
    ∷ []
unfolding
    hello_of vector digits number number_on read_fields read_body whole vector_at number_at taken bind fields at_most after_session even_words
    words_in after_suites at_least compression_stop suites_stop session_stop field_stop head_place extensions_stop stopped_at
fields-places = refl
