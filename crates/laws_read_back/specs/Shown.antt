-- A made hello, read: the reader's report shows the profile and the name (document 01, "Alike" and "The third demand's words").
use Rattle.std.specs.Prelude.{ℕ, ◌≤◌, ◌≡◌, true, cond, List, [], map, length}
use Rattle.std.proofs.Math.Option.{some}
use Rattle.wire.specs.Answer.{result}
use Rattle.wire.specs.Numbers.{Bytes}
use Rattle.wire.specs.Sums.{Permutation, member}
use Rattle.profiles.specs.Profile.{Parameter, varint, bytes, version_info, scid_source, grease, Profile}
use Rattle.profiles.specs.Sizes.{session_length}
use Rattle.profiles.specs.Test.{passes}
use Rattle.tls.specs.Hello.{order, hello}
use Rattle.fingerprint_bodies.specs.Entries.{mapped}
use Rattle.fingerprint.specs.ClientHello.{ClientHello, encode, WellFormed}
use Rattle.fingerprint.specs.Reader.{read}
use Rattle.fingerprint.specs.Report.{Report, report}
use Rattle.fingerprint.specs.InRange.{InRange}
use Rattle.alike.specs.Alike.{alike_id, bytes_of}

-- ---- Ids of parameters, "as in Alike"

-- "each id that is 27 mod 31, GREASE too, counts as 27"
unfoldable pub alike_parameter : Parameter → ℕ
alike_parameter (varint i v) = alike_id i
alike_parameter (bytes i b) = alike_id i
alike_parameter (version_info i) = alike_id i
alike_parameter (scid_source i) = alike_id i
alike_parameter grease = 27

unfoldable pub profile_ids : Profile → List ℕ
profile_ids p = map alike_parameter p.quic_tp

-- ---- What a report shows

-- a list that stands in the extension of a type: there is none where that type is not among the profile's
unfoldable pub carried : {A : Type 0} → Profile → ℕ → List A → List A
carried p t l = cond (member t p.extensions_order) l []

-- Session id length, suites, groups, key-share groups, signature algorithms, versions and ALPN are the profile's, in order, and the name is
-- the name. Extension types and parameter ids are the profile's "with order put aside and repeats counted". A permutation of no ids is no
-- ids.
pub record Shows (p : Profile) (name tape : List ℕ) (r : Report) : Type 0 where
  pub session : r.session_id_length ≡ session_length p
  pub suites : r.cipher_suites ≡ p.cipher_suites
  pub types : Permutation p.extensions_order r.extensions
  pub types-drawn : r.extensions ≡ order p tape
  pub groups : r.supported_groups ≡ carried p 0x000a p.supported_groups
  pub shares : r.key_share_groups ≡ carried p 0x0033 p.key_share_groups
  pub algorithms : r.signature_algorithms ≡ carried p 0x000d p.signature_algorithms
  pub versions : r.supported_versions ≡ carried p 0x002b p.supported_versions
  pub protocols : map bytes_of r.alpn ≡ carried p 0x0010 p.alpn
  pub server-name : mapped bytes_of r.sni ≡ some name
  pub ids : Permutation (carried p 0x0039 (profile_ids p)) (map alike_id r.transport_param_ids)

-- ---- The two claims

-- A profile that passes the test, "Name of 1 to 255 bytes", "Connection id at most 20 bytes", and a tape, all of them bytes. The tape's
-- length plays no part here: a draw past its end gives zeros.
pub record Asked (p : Profile) (name scid tape : List ℕ) : Type 0 where
  pub passing : passes p ≡ true
  pub named : 1 ≤ length name
  pub name-short : length name ≤ 255
  pub name-bytes : Bytes name
  pub scid-short : length scid ≤ 20
  pub scid-bytes : Bytes scid
  pub tape-bytes : Bytes tape

-- the bytes that are made are those of a well-formed ClientHello, which shows what was asked for
pub record Made (p : Profile) (name scid tape : List ℕ) : Type 0 where
  pub value : ClientHello
  pub is : encode value ≡ (hello p name scid tape).bytes
  pub formed : WellFormed value
  pub shows : Shows p name tape (report value)

-- the reader accepts the bytes that are made, and its report shows what was asked for
pub record ReadBack (p : Profile) (name scid tape : List ℕ) : Type 0 where
  pub value : ClientHello
  pub accepted : read (hello p name scid tape).bytes ≡ result value
  pub ranges : InRange (hello p name scid tape).bytes (report value)
  pub shows : Shows p name tape (report value)
