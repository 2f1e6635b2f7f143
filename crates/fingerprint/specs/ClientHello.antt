-- What a well-formed ClientHello is (RFC 8446, section 4.1.2; document 01, "Reading"), stated without the reader: a value, its bytes, and
-- the conditions.
use Rattle.std.specs.Prelude.{ℕ, ◌≤◌, ◌<◌, ◌≡◌, true, List, [], ◌∷◌, ◌++◌, map, length}
use Rattle.wire.specs.Numbers.{Bytes}
use Rattle.wire.specs.Vectors as bytes
use Rattle.wire.specs.Vectors.{vector, words}
use Rattle.wire.specs.Sums.{distinct}
use Rattle.fingerprint_bodies.specs.Body.{Body, kind, kind_of, encode_body}
use Rattle.fingerprint_bodies.specs.Conditions.{All, Fits, FormedWords, FormedBody}

pub record Extension : Type 0 where
  pub type : ℕ
  pub body : Body

pub record ClientHello : Type 0 where
  pub version : List ℕ
  pub random : List ℕ
  pub session_id : List ℕ
  pub cipher_suites : List ℕ
  pub compression : List ℕ
  pub extensions : List Extension

abbrev pub type_of : Extension → ℕ
type_of e = e.type

-- ---- Its bytes

-- "An extension has a 2-byte type, a 2-byte length and a body."
unfoldable pub encode_extension : Extension → List ℕ
encode_extension e = bytes.extension e.type (encode_body e.body)

unfoldable pub encode_extensions : List Extension → List ℕ
encode_extensions [] = []
encode_extensions (e ∷ es) = encode_extension e ++ encode_extensions es

-- "version (unread), 32 random bytes, session id (1-byte length), cipher suites (2-byte length), compression (1-byte length), 2-byte
-- length of the extension block, which ends the hello"
unfoldable pub encode_fields : ClientHello → List ℕ
encode_fields v =
    v.version
    ++ (v.random
    ++ (vector 1 v.session_id
    ++ (vector 2 (words v.cipher_suites) ++ (vector 1 v.compression ++ vector 2 (encode_extensions v.extensions)))))

-- "Type 01, 3-byte length of the rest"
unfoldable pub encode : ClientHello → List ℕ
encode v = 0x01 ∷ vector 3 (encode_fields v)

-- ---- The conditions

-- the body is that of its type, in its form
pub record FormedExtension (e : Extension) : Type 0 where
  pub small : e.type < 65536
  pub kinds : kind_of e.body ≡ kind e.type
  pub body : FormedBody e.body
  pub fits : Fits 2 (encode_body e.body)

pub record WellFormed (v : ClientHello) : Type 0 where
  pub version : length v.version ≡ 2
  pub version-bytes : Bytes v.version
  pub random : length v.random ≡ 32
  pub random-bytes : Bytes v.random
  pub session : length v.session_id ≤ 32
  pub session-bytes : Bytes v.session_id
  pub suites : FormedWords v.cipher_suites
  pub compressed : 1 ≤ length v.compression
  pub compression-fits : Fits 1 v.compression
  pub compression-bytes : Bytes v.compression
  pub extensions : All FormedExtension v.extensions
  pub types-once : distinct (map type_of v.extensions) ≡ true
  pub few : length v.extensions ≤ 64
  pub short : length (encode v) ≤ 16384
