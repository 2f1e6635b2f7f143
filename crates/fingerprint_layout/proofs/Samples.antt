-- Closed inputs: the report of a short hello, as bytes. Each rules out the writers that its comment names, since what is written is proved
-- equal to these definitions for every hello. Assumes nothing.
use Prim.Native.Nat.{ℕ}
use mathlib.Core.Path.{◌≡◌, refl}
use mathlib.Core.List.{List, [], ◌∷◌, map}
use lib.ListN.{take, drop}
use Rattle.wire.specs.Answer.{result, refused}
use Rattle.wire.specs.Numbers.{digits, number, number_on}
use Rattle.wire.specs.Sums.{any, member}
use Rattle.wire.specs.Vectors.{vector, words}
use Rattle.fingerprint_bodies.specs.Entries.{bind, mapped, taken, number_at, vector_at, whole, at_least, at_most, first, entries, all_entries}
use Rattle.fingerprint_bodies.specs.Body.{kind, encode_body}
use Rattle.fingerprint_bodies.specs.Forms.{words_in, even_words, word_list, one_share, key_shares, body_of, ids_new, within_counts}
use Rattle.fingerprint_lists.specs.Arrays.{padded}
use Rattle.fingerprint.specs.ClientHello.{ClientHello}
use Rattle.fingerprint.specs.Reader.{one_extension, ask_body, extension, walk, all_extensions, after_suites, after_session, fields, read_extensions, read_body, read_fields, read}
use Rattle.fingerprint.specs.Report.{numbers_in, names_in, gathered, block_place, first_of, report, sni_of, shown, parsed_of}
use Rattle.fingerprint.proofs.Samples.{hello_of, hello_with}
use Rattle.fingerprint_layout.specs.Layout.{little, littles, ranges, name_numbers, count_numbers, list_numbers, layout, reported, report_of}

-- a hello with one suite, 1301, two groups, 001d and 0102, and one key share, of 001d
abbrev pub block : List ℕ
block =
    0x00 ∷ 0x0a ∷ 0x00 ∷ 0x06 ∷ 0x00 ∷ 0x04 ∷ 0x00 ∷ 0x1d ∷ 0x01 ∷ 0x02
    ∷ 0x00 ∷ 0x33 ∷ 0x00 ∷ 0x07 ∷ 0x00 ∷ 0x05 ∷ 0x00 ∷ 0x1d ∷ 0x00 ∷ 0x01 ∷ 0x20
    ∷ []

abbrev pub places : List ℕ
places = 0 ∷ 4 ∷ 8 ∷ 24 ∷ 152 ∷ 280 ∷ 408 ∷ []

-- the four bytes at each of these places
abbrev pub bytes : List (List ℕ)
bytes =
    -- a session id of no bytes, one suite
    (0x00 ∷ 0x00 ∷ 0x01 ∷ 0x00 ∷ [])
    -- two types, two groups; key_shares_counted_as_groups has 02 00 01 00
    ∷ (0x02 ∷ 0x00 ∷ 0x02 ∷ 0x00 ∷ [])
    -- one key share, no algorithms
    ∷ (0x01 ∷ 0x00 ∷ 0x00 ∷ 0x00 ∷ [])
    -- the suites; writes_big_endian has 13 01 00 00. Then the types.
    ∷ (0x01 ∷ 0x13 ∷ 0x00 ∷ 0x00 ∷ [])
    ∷ (0x0a ∷ 0x00 ∷ 0x33 ∷ 0x00 ∷ [])
    -- the groups; groups_a_place_further has 00 00 1d 00
    ∷ (0x1d ∷ 0x00 ∷ 0x02 ∷ 0x01 ∷ [])
    -- the groups of key shares
    ∷ (0x1d ∷ 0x00 ∷ 0x00 ∷ 0x00 ∷ [])
    ∷ []

pub written : map (λ at. take 4 (drop at (layout (reported (read (hello_with block)))))) places ≡ bytes
unfolding
    hello_of hello_with vector digits number number_on read read_fields read_body whole vector_at number_at taken bind mapped fields at_most after_session even_words words_in
    after_suites at_least read_extensions all_extensions walk extension one_extension ask_body member any kind body_of word_list one_share key_shares first entries
    all_entries ids_new within_counts parsed_of report block_place gathered numbers_in names_in first_of encode_body words shown sni_of padded little littles ranges
    name_numbers count_numbers list_numbers layout
written = refl

-- room_of_1367: a report that is written where a byte is missing; of any hello that is accepted
pub no_room : (v : ClientHello) → report_of (result v) 1367 ≡ refused 100
unfolding report_of
no_room v = refl

pub room-enough : (v : ClientHello) → report_of (result v) 1368 ≡ result 1368
unfolding report_of
room-enough v = refl
