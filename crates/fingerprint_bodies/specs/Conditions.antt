-- What makes the value of a body well formed: each number has its bytes, each count its place, each list its length.
use Rattle.std.specs.Prelude.{ℕ, ◌^◌, ◌≤◌, ◌<◌, ◌≡◌, true, List, [], ◌∷◌, map, length, get_or}
use Rattle.wire.specs.Numbers.{Bytes}
use Rattle.wire.specs.Vectors.{vector, protocols}
use Rattle.wire.specs.Sums.{distinct}
use Rattle.varint.specs.Varint.{Holds}
use Rattle.fingerprint_bodies.specs.Body.{Share, Parameter, Body, server-name, supported-groups, signature-algorithms, application-protocols, supported-versions, key-shares, transport-parameters, unread, encode_shares}
use Rattle.fingerprint_bodies.specs.Forms.{id_of}

-- the count of these bytes has its place in so many bytes
abbrev pub Fits : ℕ → List ℕ → Type 0
Fits width bs = length bs < 256 ^ width

abbrev pub All : {A : Type 0} → (A → Type 0) → List A → Type 0
All P [] = Unit {0}
All P (x ∷ xs) = P x × All P xs

-- from one to 64 numbers of 16 bits
pub record FormedWords (l : List ℕ) : Type 0 where
  pub some : 1 ≤ length l
  pub few : length l ≤ 64
  pub small : (j : ℕ) → get_or l j 0 < 65536

-- a name of one byte or more, whose count has its place in so many bytes
pub record FormedName (width : ℕ) (n : List ℕ) : Type 0 where
  pub some : 1 ≤ length n
  pub fits : Fits width n
  pub bytes : Bytes n

pub record FormedNames (l : List (List ℕ)) : Type 0 where
  pub some : 1 ≤ length l
  pub few : length l ≤ 16
  pub each : All (FormedName 1) l
  pub fits : Fits 2 (protocols l)

-- the key is bytes like a name's
pub record FormedShare (s : Share) : Type 0 where
  pub small : s.group < 65536
  pub key : FormedName 2 s.key

pub record FormedShares (l : List Share) : Type 0 where
  pub few : length l ≤ 64
  pub each : All FormedShare l
  pub fits : Fits 2 (encode_shares l)

pub record FormedParameter (p : Parameter) : Type 0 where
  pub id : Holds p.id.class p.id.number
  pub size : Holds p.length_class (length p.value)
  pub bytes : Bytes p.value

-- ids once each
pub record FormedParameters (l : List Parameter) : Type 0 where
  pub few : length l ≤ 64
  pub each : All FormedParameter l
  pub once : distinct (map id_of l) ≡ true

pub record FormedEntry (n : List ℕ) : Type 0 where
  pub name : FormedName 2 n
  pub fits : Fits 2 (0x00 ∷ vector 2 n)

abbrev pub FormedBody : Body → Type 0
FormedBody (server-name n) = FormedEntry n
FormedBody (supported-groups l) = FormedWords l
FormedBody (signature-algorithms l) = FormedWords l
FormedBody (application-protocols l) = FormedNames l
FormedBody (supported-versions l) = FormedWords l
FormedBody (key-shares l) = FormedShares l
FormedBody (transport-parameters l) = FormedParameters l
FormedBody (unread b) = Bytes b
