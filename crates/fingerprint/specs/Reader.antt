-- The reader: the ClientHello that bytes hold, or the number of the refusal (document 01, "Reading" and questions 16 to 23). The first
-- "no" wins.
use Rattle.std.specs.Prelude.{ℕ, zero, suc, not, ◌&&◌, List, [], ◌∷◌, ◌++◌, map, length, drop, get_or, eqb, leb, ltb}
use Rattle.std.proofs.Math.Option.{Option, none, some}
use Rattle.wire.specs.Answer.{Answer, result, refused, ask, and_then}
use Rattle.wire.specs.Sums.{member}
use Rattle.fingerprint_bodies.specs.Entries.{Entry, entry, bind, taken, number_at, vector_at, whole, at_least, at_most}
use Rattle.fingerprint_bodies.specs.Body.{kind}
use Rattle.fingerprint_bodies.specs.Forms.{even_words, body_of, ids_new, within_counts}
use Rattle.fingerprint.specs.ClientHello.{Extension, ClientHello, type_of}

-- a question whether something is in its form: what is there goes on
abbrev pub in_form : {A B : Type 0} → Option A → ℕ → (A → Answer B) → Answer B
in_form none n next = refused n
in_form (some a) n next = next a

-- ---- One extension

-- its type and the bytes of its body
pub record Raw : Type 0 where
  pub type : ℕ
  pub bytes : List ℕ

unfoldable pub one_extension : List ℕ → Option (Entry Raw)
one_extension bs =
    bind (number_at 2 bs) (λ t.
    bind (vector_at 2 t.rest) (λ b.
    some (entry (record { type = t.value; bytes = b.value }) b.rest)))

-- "Type new, and body in its form? 21 Parameter ids all new? 22 Lists, extensions included, within their counts? 23" after those done
unfoldable pub ask_body : List Extension → Raw → Answer Extension
ask_body done e =
    ask (not (member e.type (map type_of done))) 21
    (in_form (body_of (kind e.type) e.bytes) 21 (λ body.
    ask (ids_new body) 22
    (ask (within_counts body && ltb (length done) 64) 23
    (result (record { type = e.type; body = body })))))

-- "header and body inside the block? 20"
unfoldable pub extension : List Extension → List ℕ → Answer (Entry Extension)
extension done bs = in_form (one_extension bs) 20 (λ e. and_then (ask_body done e.value) (λ x. result (entry x e.rest)))

-- "Then each extension in turn, 20 to 23 for one before the next". Fuel is at least the count of the bytes.
unfoldable pub walk : ℕ → List Extension → List ℕ → Answer (List Extension)
walk zero done bs = result done
walk (suc f) done [] = result done
walk (suc f) done (b ∷ bs) = and_then (extension done (b ∷ bs)) (λ e. walk f (done ++ (e.value ∷ [])) e.rest)

unfoldable pub all_extensions : List ℕ → Answer (List Extension)
all_extensions bs = walk (length bs) [] bs

-- ---- What stands before the extensions

-- the fields, and the block of extensions
pub record Fields : Type 0 where
  pub version : List ℕ
  pub random : List ℕ
  pub session_id : List ℕ
  pub cipher_suites : List ℕ
  pub compression : List ℕ
  pub block : List ℕ

-- "compression (1-byte length, 1 or more), 2-byte length of the extension block, which ends the hello and may be 0"
unfoldable pub after_suites : List ℕ → List ℕ → List ℕ → List ℕ → List ℕ → Option Fields
after_suites version random id suites bs =
    bind (vector_at 1 bs) (λ c.
    bind (at_least 1 c.value) (λ compression.
    bind (whole 2 c.rest) (λ block.
    some (record { version = version; random = random; session_id = id; cipher_suites = suites; compression = compression; block = block }))))

-- "cipher suites (2-byte length, even, 2 or more)"
unfoldable pub after_session : List ℕ → List ℕ → List ℕ → List ℕ → Option Fields
after_session version random id bs =
    bind (vector_at 2 bs) (λ s. bind (even_words s.value) (λ suites. after_suites version random id suites s.rest))

-- "version (unread), 32 random bytes, session id (1-byte length, 0 to 32)"
unfoldable pub fields : List ℕ → Option Fields
fields bs =
    bind (taken 2 bs) (λ v.
    bind (taken 32 v.rest) (λ r.
    bind (vector_at 1 r.rest) (λ i.
    bind (at_most 32 i.value) (λ id.
    after_session v.value r.value id i.rest))))

-- ---- The questions

abbrev pub with_extensions : Fields → List Extension → ClientHello
with_extensions f es = record {
  version = f.version;
  random = f.random;
  session_id = f.session_id;
  cipher_suites = f.cipher_suites;
  compression = f.compression;
  extensions = es;
}

-- "Its 3-byte length there and true? 18 Fields and block as above? 19"
unfoldable pub read_body : List ℕ → Answer Fields
read_body bs = in_form (whole 3 bs) 18 (λ body. in_form (fields body) 19 result)

-- "hello at most 16,384 bytes? 16 First byte there and 01? 17": what stands before the extensions
unfoldable pub read_fields : List ℕ → Answer Fields
read_fields h = ask (leb (length h) 16384) 16 (ask (leb 1 (length h) && eqb (get_or h 0 0) 1) 17 (read_body (drop 1 h)))

-- "Suites at most 64? 23 Then each extension in turn"
unfoldable pub read_extensions : Fields → Answer ClientHello
read_extensions f =
    ask (leb (length f.cipher_suites) 64) 23
    (and_then (all_extensions f.block) (λ es. result (with_extensions f es)))

unfoldable pub read : List ℕ → Answer ClientHello
read h = and_then (read_fields h) read_extensions
