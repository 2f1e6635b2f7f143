-- The fields before the extensions, written and read: what is written is read, and what is read from bytes has those bytes. Assumes nothing.
use Prim.Native.Nat.{ℕ, ◌≤◌}
use mathlib.Core.Path.{◌≡◌, refl, subst}
use mathlib.Core.List.{List, ◌++◌}
use mathlib.Core.Option.{Option, some}
use native.Mathlib.Omega.{arith}
use lib.ListN.{length}
use borrow.Author.Tests.{le-leb}
use Rattle.wire.specs.Numbers.{Bytes}
use Rattle.wire.specs.Vectors.{vector, words}
use Rattle.wire.proofs.VectorLaws.{length-words}
use Rattle.fingerprint_bodies.specs.Entries.{Entry, bind, taken, vector_at, whole, at_least, at_most}
use Rattle.fingerprint_bodies.specs.Forms.{even_words}
use Rattle.fingerprint_bodies.specs.Conditions.{Fits, FormedWords}
use Rattle.fingerprint_bodies.proofs.BindLaws.{bind-some, same_some, at_least-some, at_most-some}
use Rattle.fingerprint_bodies.proofs.RoundTrip.{bytes_left, bytes-right, bytes_same, taken-read, taken_back, vector-read, vector-back, vector-bytes, whole-read, whole_back}
use Rattle.fingerprint_bodies.proofs.BodyRead.{at-least, even-read}
use Rattle.fingerprint_bodies.proofs.BodyBack.{WordsOf, even-back}
use Rattle.fingerprint.specs.Reader.{Fields, after_suites, after_session, fields}

at-most : {A : Type 0} (n : ℕ) (l : List A) → length l ≤ n → at_most n l ≡ some l
unfolding at_most
at-most n l h = rw (le-leb (length l) n h)

-- the bytes of the fields, with the block of extensions
abbrev pub encoded : Fields → List ℕ
encoded f = f.version ++ (f.random ++ (vector 1 f.session_id ++ (vector 2 (words f.cipher_suites) ++ (vector 1 f.compression ++ vector 2 f.block))))

-- ---- written and read

-- fields as a hello has them
pub record FormedFields (f : Fields) : Type 0 where
  pub version : length f.version ≡ 2
  pub random : length f.random ≡ 32
  pub session : length f.session_id ≤ 32
  pub suites : FormedWords f.cipher_suites
  pub compressed : 1 ≤ length f.compression
  pub compression-fits : Fits 1 f.compression
  pub block-fits : Fits 2 f.block

module _ (f : Fields) (h : FormedFields f) where
  suites-read : after_suites f.version f.random f.session_id f.cipher_suites (vector 1 f.compression ++ vector 2 f.block) ≡ some f
  unfolding after_suites bind
  suites-read =
      rw (vector-read 1 f.compression (vector 2 f.block) h.compression-fits, at-least 1 f.compression h.compressed, whole-read 2 f.block h.block-fits)

  session-read : after_session f.version f.random f.session_id (vector 2 (words f.cipher_suites) ++ (vector 1 f.compression ++ vector 2 f.block)) ≡ some f
  unfolding after_session bind
  session-read =
      let fits : Fits 2 (words f.cipher_suites) = omega (arith, length-words f.cipher_suites, h.suites.few) in
      rw (vector-read 2 (words f.cipher_suites) (vector 1 f.compression ++ vector 2 f.block) fits, even-read f.cipher_suites h.suites) suites-read

  pub fields_read : fields (encoded f) ≡ some f
  unfolding fields bind
  fields_read =
      let c = vector 1 f.compression ++ vector 2 f.block in
      let s = vector 2 (words f.cipher_suites) ++ c in
      let i = vector 1 f.session_id ++ s in
      let fits : Fits 1 f.session_id = omega (arith, h.session) in
      rw (
        taken-read f.version (f.random ++ i) 2 h.version,
        taken-read f.random i 32 h.random,
        vector-read 1 f.session_id s fits,
        at-most 32 f.session_id h.session,
      )
      session-read

-- ---- read, and so written

-- the fields that bytes hold
pub record FieldsIn (bs : List ℕ) (f : Fields) : Type 0 where
  pub is : encoded f ≡ bs
  pub formed : length f.cipher_suites ≤ 64 → FormedFields f
  pub version-bytes : Bytes f.version
  pub random-bytes : Bytes f.random
  pub session-bytes : Bytes f.session_id
  pub compression-bytes : Bytes f.compression
  pub block-bytes : Bytes f.block

record SuitesIn (version random id suites bs : List ℕ) (f : Fields) : Type 0 where
  compression : List ℕ
  block : List ℕ
  made : record { version = version; random = random; session_id = id; cipher_suites = suites; compression = compression; block = block } ≡ f
  is : vector 1 compression ++ vector 2 block ≡ bs
  compressed : 1 ≤ length compression
  compression-fits : Fits 1 compression
  block-fits : Fits 2 block
  compression-bytes : Bytes compression
  block-bytes : Bytes block

suites-back : (version random id suites bs : List ℕ) (f : Fields) → Bytes bs → after_suites version random id suites bs ≡ some f → SuitesIn version random id suites bs f
unfolding after_suites
suites-back version random id suites bs f b e =
    let made : List ℕ → List ℕ → Fields = λ c x. record { version = version; random = random; session_id = id; cipher_suites = suites; compression = c; block = x } in
    let blocked : List ℕ → List ℕ → Option Fields = λ r c. bind (whole 2 r) (λ x. some (made c x)) in
    let p = bind-some (vector_at 1 bs) (λ c. bind (at_least 1 c.value) (λ x. blocked c.rest x)) f e in
    let c = p.value in
    let q = bind-some (at_least 1 c.value) (λ x. blocked c.rest x) f p.after in
    let r = bind-some (whole 2 c.rest) (λ x. some (made q.value x)) f q.after in
    let a = at_least-some 1 c.value q.value q.is in
    let v = vector-back 1 bs c b p.is in
    let b1 : Bytes c.rest = bytes-right (vector 1 c.value) c.rest (bytes_same v.0 b) in
    let b2 : Bytes (vector 1 c.value) = bytes_left (vector 1 c.value) c.rest (bytes_same v.0 b) in
    let w = whole_back 2 c.rest r.value b1 r.is in
    record {
      compression = q.value;
      block = r.value;
      made = same_some (made q.value r.value) f r.after;
      is = rw (w.0, ← a.1) v.0;
      compressed = a.0;
      compression-fits = subst (λ (l : List ℕ). Fits 1 l) a.1 v.1;
      block-fits = w.1;
      compression-bytes = subst (λ (l : List ℕ). Bytes l) a.1 (vector-bytes 1 c.value (vector 1 c.value) refl b2);
      block-bytes = vector-bytes 2 r.value c.rest w.0 b1;
    }

record SessionIn (version random id bs : List ℕ) (f : Fields) : Type 0 where
  suites : List ℕ
  inner : List ℕ
  rest : List ℕ
  is : vector 2 inner ++ rest ≡ bs
  suites-are : WordsOf inner suites
  after : SuitesIn version random id suites rest f

session-back : (version random id bs : List ℕ) (f : Fields) → Bytes bs → after_session version random id bs ≡ some f → SessionIn version random id bs f
unfolding after_session
session-back version random id bs f b e =
    let p = bind-some (vector_at 2 bs) (λ s. bind (even_words s.value) (λ x. after_suites version random id x s.rest)) f e in
    let s = p.value in
    let q = bind-some (even_words s.value) (λ x. after_suites version random id x s.rest) f p.after in
    let v = vector-back 2 bs s b p.is in
    let b1 : Bytes (vector 2 s.value) = bytes_left (vector 2 s.value) s.rest (bytes_same v.0 b) in
    record {
      suites = q.value;
      inner = s.value;
      rest = s.rest;
      is = v.0;
      suites-are = even-back s.value q.value (vector-bytes 2 s.value (vector 2 s.value) refl b1) q.is;
      after = suites-back version random id q.value s.rest f (bytes-right (vector 2 s.value) s.rest (bytes_same v.0 b)) q.after;
    }

pub fields_back : (bs : List ℕ) (f : Fields) → Bytes bs → fields bs ≡ some f → FieldsIn bs f
unfolding fields
fields_back bs f b e =
    let identified : List ℕ → List ℕ → Entry (List ℕ) → Option Fields = λ v r i. bind (at_most 32 i.value) (λ id. after_session v r id i.rest) in
    let drawn : List ℕ → Entry (List ℕ) → Option Fields = λ v r. bind (vector_at 1 r.rest) (λ i. identified v r.value i) in
    let p = bind-some (taken 2 bs) (λ v. bind (taken 32 v.rest) (λ r. drawn v.value r)) f e in
    let v = p.value in
    let q = bind-some (taken 32 v.rest) (λ r. drawn v.value r) f p.after in
    let r = q.value in
    let s = bind-some (vector_at 1 r.rest) (λ i. identified v.value r.value i) f q.after in
    let i = s.value in
    let t = bind-some (at_most 32 i.value) (λ id. after_session v.value r.value id i.rest) f s.after in
    let vb = taken_back 2 bs v p.is in
    let b1 : Bytes v.rest = bytes-right v.value v.rest (bytes_same vb.0 b) in
    let rb = taken_back 32 v.rest r q.is in
    let b2 : Bytes r.rest = bytes-right r.value r.rest (bytes_same rb.0 b1) in
    let ib = vector-back 1 r.rest i b2 s.is in
    let b3 : Bytes i.rest = bytes-right (vector 1 i.value) i.rest (bytes_same ib.0 b2) in
    let a = at_most-some 32 i.value t.value t.is in
    let x = session-back v.value r.value t.value i.rest f b3 t.after in
    let y = x.after in
    let same_id : vector 1 t.value ++ i.rest ≡ r.rest = rw (← a.1) ib.0 in
    let b4 : Bytes (vector 1 t.value) = bytes_left (vector 1 t.value) i.rest (bytes_same same_id b2) in
    subst (λ (g : Fields). FieldsIn bs g) y.made
    (record {
      is = rw (y.is, x.suites-are.is, x.is, same_id, rb.0) vb.0;
      formed =
          λ few. record {
            version = vb.1;
            random = rb.1;
            session = a.0;
            suites = record { some = x.suites-are.some-there; few = few; small = x.suites-are.small };
            compressed = y.compressed;
            compression-fits = y.compression-fits;
            block-fits = y.block-fits;
          };
      version-bytes = bytes_left v.value v.rest (bytes_same vb.0 b);
      random-bytes = bytes_left r.value r.rest (bytes_same rb.0 b1);
      session-bytes = vector-bytes 1 t.value (vector 1 t.value) refl b4;
      compression-bytes = y.compression-bytes;
      block-bytes = y.block-bytes;
    })
