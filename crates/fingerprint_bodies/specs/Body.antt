-- The bodies of extensions as values, and their bytes (RFC 8446, sections 4.2.1, 4.2.3, 4.2.7 and 4.2.8; RFC 6066, section 3; RFC 7301,
-- section 3.1; RFC 9000, section 18; document 01, "Reading").
use Rattle.std.specs.Prelude.{ℕ, cond, List, [], ◌∷◌, ◌++◌, length, eqb}
use Rattle.wire.specs.Numbers.{digits}
use Rattle.wire.specs.Vectors as bytes
use Rattle.wire.specs.Vectors.{vector, words}
use Rattle.varint.specs.Varint.{form}

-- a group and its key
pub record Share : Type 0 where
  pub group : ℕ
  pub key : List ℕ

-- a number, and the class of the width in which it is written
pub record Number : Type 0 where
  pub class : ℕ
  pub number : ℕ

-- a transport parameter: its id and its length "with any varint widths", and its value
pub record Parameter : Type 0 where
  pub id : Number
  pub length_class : ℕ
  pub value : List ℕ

pub data Body : Type 0 where
  server-name : List ℕ → Body
  supported-groups : List ℕ → Body
  signature-algorithms : List ℕ → Body
  application-protocols : List (List ℕ) → Body
  supported-versions : List ℕ → Body
  key-shares : List Share → Body
  transport-parameters : List Parameter → Body
  unread : List ℕ → Body

-- ---- Which body an extension of a type has

pub data Kind : Type 0 where
  name groups algorithms protocols versions shares parameters other : Kind

unfoldable pub kind : ℕ → Kind
kind t =
    cond (eqb t 0x0000) name
    (cond (eqb t 0x000a) groups
    (cond (eqb t 0x000d) algorithms
    (cond (eqb t 0x0010) protocols
    (cond (eqb t 0x002b) versions
    (cond (eqb t 0x0033) shares
    (cond (eqb t 0x0039) parameters
    other))))))

unfoldable pub kind_of : Body → Kind
kind_of (server-name n) = name
kind_of (supported-groups l) = groups
kind_of (signature-algorithms l) = algorithms
kind_of (application-protocols l) = protocols
kind_of (supported-versions l) = versions
kind_of (key-shares l) = shares
kind_of (transport-parameters l) = parameters
kind_of (unread b) = other

-- ---- Their bytes

-- "entries of group, 2-byte length, key"
unfoldable pub encode_share : Share → List ℕ
encode_share s = digits 256 2 s.group ++ vector 2 s.key

unfoldable pub encode_shares : List Share → List ℕ
encode_shares [] = []
encode_shares (s ∷ ss) = encode_share s ++ encode_shares ss

-- "varint id, varint length, value"
unfoldable pub encode_parameter : Parameter → List ℕ
encode_parameter p = form p.id.class p.id.number ++ (form p.length_class (length p.value) ++ p.value)

unfoldable pub encode_parameters : List Parameter → List ℕ
encode_parameters [] = []
encode_parameters (p ∷ ps) = encode_parameter p ++ encode_parameters ps

-- a server name is one entry of type 0
unfoldable pub encode_body : Body → List ℕ
encode_body (server-name n) = vector 2 (0x00 ∷ vector 2 n)
encode_body (supported-groups l) = vector 2 (words l)
encode_body (signature-algorithms l) = vector 2 (words l)
encode_body (application-protocols l) = vector 2 (bytes.protocols l)
encode_body (supported-versions l) = vector 1 (words l)
encode_body (key-shares l) = vector 2 (encode_shares l)
encode_body (transport-parameters l) = encode_parameters l
encode_body (unread b) = b
