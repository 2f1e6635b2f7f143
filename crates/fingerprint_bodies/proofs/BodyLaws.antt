-- Bodies in their form are read from their bytes; what is read from bytes is in its form and has those bytes. Assumes nothing.
use Prim.Native.Nat.{ℕ}
use mathlib.Core.Path.{◌≡◌, refl}
use mathlib.Core.Bool.{true}
use mathlib.Core.List.{List}
use mathlib.Core.Option.{some}
use native.Mathlib.Omega.{arith}
use lib.ListN.{length}
use borrow.Author.Tests.{le-leb}
use Rattle.wire.specs.Numbers.{Bytes}
use Rattle.wire.specs.Vectors.{words}
use Rattle.wire.proofs.VectorLaws.{length-words}
use Rattle.fingerprint_bodies.specs.Entries.{mapped}
use Rattle.fingerprint_bodies.specs.Body.{Body, Kind, server-name, supported-groups, signature-algorithms, application-protocols, supported-versions, key-shares, transport-parameters, unread, kind_of, encode_body}
use Rattle.fingerprint_bodies.specs.Forms.{body_of, ids_new, within_counts}
use Rattle.fingerprint_bodies.specs.Conditions.{Fits, FormedWords, FormedBody}
use Rattle.fingerprint_bodies.proofs.BodyRead.{words-read, name-read, names-read, shares-read, parameters-read}
use Rattle.fingerprint_bodies.proofs.BodyBack.{body_back}

-- a body is found in its bytes, and each question of its lists is answered with yes
pub record BodyFound (b : Body) : Type 0 where
  pub is : body_of (kind_of b) (encode_body b) ≡ some b
  pub new : ids_new b ≡ true
  pub few : within_counts b ≡ true

fits_one : (l : List ℕ) → FormedWords l → Fits 1 (words l)
fits_one l h = omega (arith, length-words l, h.few)

fits-two : (l : List ℕ) → FormedWords l → Fits 2 (words l)
fits-two l h = omega (arith, length-words l, h.few)

pub body-read : (b : Body) → FormedBody b → BodyFound b
unfolding body_of kind_of encode_body ids_new within_counts mapped
body-read (server-name n) h = record { is = rw (name-read n h); new = refl; few = refl }
body-read (supported-groups l) h = record { is = rw (words-read 2 l (fits-two l h) h); new = refl; few = le-leb (length l) 64 h.few }
body-read (signature-algorithms l) h = record { is = rw (words-read 2 l (fits-two l h) h); new = refl; few = le-leb (length l) 64 h.few }
body-read (application-protocols l) h = record { is = rw (names-read l h); new = refl; few = le-leb (length l) 16 h.few }
body-read (supported-versions l) h = record { is = rw (words-read 1 l (fits_one l h) h); new = refl; few = le-leb (length l) 64 h.few }
body-read (key-shares l) h = record { is = rw (shares-read l h); new = refl; few = le-leb (length l) 64 h.few }
body-read (transport-parameters l) h = record { is = rw (parameters-read l h); new = h.once; few = le-leb (length l) 64 h.few }
body-read (unread bs) h = record { is = refl; new = refl; few = refl }

pub body-formed : (k : Kind) (bs : List ℕ) (b : Body) → Bytes bs → body_of k bs ≡ some b → ids_new b ≡ true → within_counts b ≡ true
    → (encode_body b ≡ bs) × (kind_of b ≡ k) × FormedBody b
body-formed k bs b h e new few = let r = body_back k bs b h e in (r.is, r.kinds, r.formed new few)
