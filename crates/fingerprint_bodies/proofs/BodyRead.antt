-- The bytes of a body in its form are read as that body. Assumes nothing.
use Prim.Native.Nat.{ℕ, suc, ◌+◌, ◌*◌, ◌/◌, ◌%◌, ◌≤◌, ◌<◌}
use mathlib.Core.Path.{◌≡◌, refl}
use mathlib.Core.List.{List, [], ◌∷◌, ◌++◌, append_assoc}
use mathlib.Core.Option.{some}
use native.Mathlib.Omega.{arith}
use lib.ListN.{length, get_or}
use lib.Dec.{lit<}
use lib.Seq.{drop_at}
use borrow.Author.Tests.{le-leb, eq-eqb}
use Rattle.wire.specs.Numbers.{digits, number, number_on}
use Rattle.wire.specs.Vectors as bytes
use Rattle.wire.specs.Vectors.{vector, words}
use Rattle.wire.proofs.VectorLaws.{length-words}
use Rattle.varint.specs.Varint.{Holds, width, form}
use Rattle.varint.proofs.RoundTrip.{length-form, class_at-form, form-read}
use Rattle.fingerprint_bodies.specs.Entries.{entry, bind, number_at, at_least}
use Rattle.fingerprint_bodies.specs.Body.{Share, Parameter, encode_share, encode_shares, encode_parameter, encode_parameters}
use Rattle.fingerprint_bodies.specs.Forms.{words_in, even_words, word_list, one_entry, server_name, one_name, some_names, protocol_names, one_share, key_shares, varint_at, one_parameter, transport_parameters}
use Rattle.fingerprint_bodies.specs.Conditions.{Fits, FormedWords, FormedName, FormedNames, FormedShare, FormedShares, FormedParameter, FormedParameters, FormedEntry}
use Rattle.fingerprint_bodies.proofs.RoundTrip.{taken-read, number_read, vector-read, whole-read}
use Rattle.fingerprint_bodies.proofs.EntryTrips.{Read, all_read}
use Rattle.fingerprint_bodies.proofs.BodyBack.{names-in-turn, shares-in-turn, parameters-in-turn, name-takes, share-takes, parameter-takes}

pub at-least : {A : Type 0} (n : ℕ) (l : List A) → n ≤ length l → at_least n l ≡ some l
unfolding at_least
at-least n l h = rw (le-leb n (length l) h)

-- ---- lists of 16-bit numbers

in_words : (l : List ℕ) → ((j : ℕ) → get_or l j 0 < 65536) → words_in (words l) ≡ l
unfolding words_in words number number_on digits
in_words [] h = refl
in_words (v ∷ vs) h =
    let z : (0 * 256 + v / 256 % 256) * 256 + v % 256 ≡ v = omega (arith, h 0) in
    rw (z, in_words vs (λ j. h (suc j)))

pub even-read : (l : List ℕ) → FormedWords l → even_words (words l) ≡ some l
unfolding even_words
even-read l h =
    rw (
      le-leb 2 (length (words l)) (omega (arith, h.some, length-words l)),
      eq-eqb (length (words l) % 2) 0 (omega (arith, length-words l)),
      in_words l h.small,
    )

pub words-read : (width : ℕ) (l : List ℕ) → Fits width (words l) → FormedWords l → word_list width (vector width (words l)) ≡ some l
unfolding word_list bind
words-read width l f h = rw (whole-read width (words l) f) (even-read l h)

-- ---- a server name

entry_read : (n : List ℕ) → FormedName 2 n → one_entry (0x00 ∷ vector 2 n) ≡ some n
unfolding one_entry bind digits
entry_read n h =
    let type-read : number_at 1 (0x00 ∷ vector 2 n) ≡ some (entry 0 (vector 2 n)) = number_read 1 0 (vector 2 n) (lit< tt) in
    rw (type-read, whole-read 2 n h.fits) (at-least 1 n h.some)

pub name-read : (n : List ℕ) → FormedEntry n → server_name (vector 2 (0x00 ∷ vector 2 n)) ≡ some n
unfolding server_name bind
name-read n h = rw (whole-read 2 (0x00 ∷ vector 2 n) h.fits) (entry_read n h.name)

-- ---- names, key shares and parameters

one_name-read : Read one_name (λ n. vector 1 n) (λ n. FormedName 1 n)
unfolding one_name bind
one_name-read n rest h = rw (vector-read 1 n rest h.fits, le-leb 1 (length n) h.some)

one_share-read : Read one_share encode_share (λ s. FormedShare s)
unfolding one_share encode_share bind
one_share-read s rest h =
    rw (
      append_assoc (digits 256 2 s.group) (vector 2 s.key) rest,
      number_read 2 s.group (vector 2 s.key ++ rest) h.small,
      vector-read 2 s.key rest h.key.fits,
      le-leb 1 (length s.key) h.key.some,
    )

varint-read : (c v : ℕ) (rest : List ℕ) → Holds c v → varint_at (form c v ++ rest) ≡ some (entry (record { class = c; number = v }) rest)
unfolding varint_at
varint-read c v rest h =
    rw (form-read c v rest h.known h.below, class_at-form c v rest h.known h.below, drop_at (form c v) rest (width c) (length-form c v))

one_parameter-read : Read one_parameter encode_parameter (λ p. FormedParameter p)
unfolding one_parameter encode_parameter bind
one_parameter-read p rest h =
    let i = form p.id.class p.id.number in
    let n = form p.length_class (length p.value) in
    rw (
      append_assoc i (n ++ p.value) rest,
      append_assoc n p.value rest,
      varint-read p.id.class p.id.number (n ++ (p.value ++ rest)) h.id,
      varint-read p.length_class (length p.value) (p.value ++ rest) h.size,
      taken-read p.value rest (length p.value) refl,
    )

pub names-read : (l : List (List ℕ)) → FormedNames l → protocol_names (vector 2 (bytes.protocols l)) ≡ some l
unfolding protocol_names some_names bind
names-read l h =
    rw (
      whole-read 2 (bytes.protocols l) h.fits,
      all_read one_name (λ n. vector 1 n) bytes.protocols (λ n. FormedName 1 n) names-in-turn name-takes one_name-read l h.each,
    )
    (at-least 1 l h.some)

pub shares-read : (l : List Share) → FormedShares l → key_shares (vector 2 (encode_shares l)) ≡ some l
unfolding key_shares bind
shares-read l h =
    rw (whole-read 2 (encode_shares l) h.fits) (all_read one_share encode_share encode_shares (λ s. FormedShare s) shares-in-turn share-takes one_share-read l h.each)

pub parameters-read : (l : List Parameter) → FormedParameters l → transport_parameters (encode_parameters l) ≡ some l
unfolding transport_parameters
parameters-read l h =
    all_read one_parameter encode_parameter encode_parameters (λ p. FormedParameter p) parameters-in-turn parameter-takes one_parameter-read l h.each
