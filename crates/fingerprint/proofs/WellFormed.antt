-- The reader accepts exactly the bytes of well-formed hellos, each as the hello whose bytes they are. Assumes nothing.
use Prim.Native.Nat.{ℕ, ◌≤◌}
use mathlib.Core.Path.{◌≡◌, sym, ap, ◌∙◌, subst}
use mathlib.Core.Bool.{◌&&◌}
use mathlib.Core.List.{List, [], ◌∷◌, ◌++◌}
use mathlib.Core.Option.{some}
use mathlib.Core.Logic.{◌↔◌}
use native.Mathlib.Omega.{arith}
use lib.ListN.{length, drop, get_or, length-append}
use lib.Dec.{eqb, leb}
use borrow.Author.Tests.{le-leb, leb-true, eqb-true}
use Rattle.wire.specs.Answer.{result, ask, and_then}
use Rattle.wire.specs.Numbers.{Bytes}
use Rattle.wire.specs.Vectors.{vector, words}
use Rattle.wire.proofs.AnswerLaws.{same-result, ask-yes, and_then-result}
use Rattle.wire.proofs.NumberLaws.{bytes_drop}
use Rattle.wire.proofs.SumLaws.{and_left, and_right}
use Rattle.wire.proofs.VectorLaws.{length-vector}
use Rattle.fingerprint_bodies.specs.Entries.{whole}
use Rattle.fingerprint_bodies.specs.Conditions.{Fits}
use Rattle.fingerprint_bodies.proofs.RoundTrip.{vector-bytes, whole-read, whole_back}
use Rattle.fingerprint.specs.ClientHello.{ClientHello, encode_extensions, encode_fields, encode, WellFormed}
use Rattle.fingerprint.specs.Reader.{in_form, all_extensions, Fields, fields, with_extensions, read_extensions, read_body, read_fields, read}
use Rattle.fingerprint.proofs.WalkTrips.{in_form-result, extensions-read, extensions-back}
use Rattle.fingerprint.proofs.FieldTrips.{encoded, FormedFields, fields_read, fields_back}

-- the fields of a hello, with the bytes of its extensions
abbrev fields_of : ClientHello → Fields
fields_of v = record {
  version = v.version;
  random = v.random;
  session_id = v.session_id;
  cipher_suites = v.cipher_suites;
  compression = v.compression;
  block = encode_extensions v.extensions;
}

-- ---- a well-formed hello is read

module _ (v : ClientHello) (h : WellFormed v) where
  fields_fit : Fits 3 (encode_fields v)
  unfolding encode
  fields_fit = omega (arith, h.short, length-vector 3 (encode_fields v))

  block-length : length (vector 2 (encode_extensions v.extensions)) ≤ length (encode_fields v)
  unfolding encode_fields
  block-length =
      let b = vector 2 (encode_extensions v.extensions) in
      let c = vector 1 v.compression in
      let s = vector 2 (words v.cipher_suites) in
      let i = vector 1 v.session_id in
      omega (
        arith,
        length-append v.version (v.random ++ (i ++ (s ++ (c ++ b)))),
        length-append v.random (i ++ (s ++ (c ++ b))),
        length-append i (s ++ (c ++ b)),
        length-append s (c ++ b),
        length-append c b,
      )

  block-fits : Fits 2 (encode_extensions v.extensions)
  unfolding encode
  block-fits = omega (arith, h.short, length-vector 3 (encode_fields v), block-length, length-vector 2 (encode_extensions v.extensions))

  formed-fields : FormedFields (fields_of v)
  formed-fields =
      record {
        version = h.version;
        random = h.random;
        session = h.session;
        suites = h.suites;
        compressed = h.compressed;
        compression-fits = h.compression-fits;
        block-fits = block-fits;
      }

  body_of : read_body (vector 3 (encode_fields v)) ≡ result (fields_of v)
  unfolding read_body encode_fields
  body_of = rw (whole-read 3 (encoded (fields_of v)) fields_fit, fields_read (fields_of v) formed-fields)

  fields-of : read_fields (encode v) ≡ result (fields_of v)
  unfolding read_fields encode
  fields-of = rw (le-leb (length (encode v)) 16384 h.short, le-leb 1 (length (encode v)) (omega arith)) body_of

  pub read-encoded : read (encode v) ≡ result v
  unfolding read read_extensions
  read-encoded =
      rw (
        fields-of,
        le-leb (length v.cipher_suites) 64 h.suites.few,
        extensions-read v.extensions h.extensions h.types-once h.few,
      )

-- ---- what is read is a well-formed hello

first_byte : (h : List ℕ) → 1 ≤ length h → get_or h 0 0 ≡ 1 → 0x01 ∷ drop 1 h ≡ h
first_byte [] l e = absurd (omega arith)
first_byte (x ∷ h) l e = rw e

-- the bytes after the first
record BodyIn (bs : List ℕ) (v : ClientHello) : Type 0 where
  is : vector 3 (encode_fields v) ≡ bs
  formed : length (encode v) ≤ 16384 → WellFormed v

body_back : (bs : List ℕ) (f : Fields) (v : ClientHello) → Bytes bs → read_body bs ≡ result f → read_extensions f ≡ result v → BodyIn bs v
unfolding read_body read_extensions encode_fields
body_back bs f v b e g =
    let p = in_form-result (whole 3 bs) 18 (λ body. in_form (fields body) 19 result) f e in
    let q = in_form-result (fields p.value) 19 result f p.after in
    let r = ask-yes (leb (length f.cipher_suites) 64) 23 (and_then (all_extensions f.block) (λ es. result (with_extensions f es))) v g in
    let s = and_then-result (all_extensions f.block) (λ es. result (with_extensions f es)) v r.1 in
    let w = whole_back 3 bs p.value b p.is in
    let x = fields_back p.value f (vector-bytes 3 p.value bs w.0 b) (q.is ∙ ap some (same-result q.value f q.after)) in
    let y = extensions-back f.block s.value x.block-bytes s.is in
    let z = x.formed (leb-true (length f.cipher_suites) 64 r.0) in
    subst (λ (u : ClientHello). BodyIn bs u) (same-result (with_extensions f s.value) v s.after)
    (record {
      is = rw (y.is, x.is) w.0;
      formed =
          λ short. record {
            version = z.version;
            version-bytes = x.version-bytes;
            random = z.random;
            random-bytes = x.random-bytes;
            session = z.session;
            session-bytes = x.session-bytes;
            suites = z.suites;
            compressed = z.compressed;
            compression-fits = z.compression-fits;
            compression-bytes = x.compression-bytes;
            extensions = y.formed;
            types-once = y.once;
            few = y.few;
            short = short;
          };
    })

pub encoded-read : (h : List ℕ) → Bytes h → (v : ClientHello) → read h ≡ result v → (encode v ≡ h) × WellFormed v
unfolding read read_fields encode
encoded-read h b v e =
    let f = and_then-result (read_fields h) read_extensions v e in
    let p = ask-yes (leb (length h) 16384) 16 (ask (leb 1 (length h) && eqb (get_or h 0 0) 1) 17 (read_body (drop 1 h))) f.value f.is in
    let q = ask-yes (leb 1 (length h) && eqb (get_or h 0 0) 1) 17 (read_body (drop 1 h)) f.value p.1 in
    let long : 1 ≤ length h = leb-true 1 (length h) (and_left (leb 1 (length h)) (eqb (get_or h 0 0) 1) q.0) in
    let one : get_or h 0 0 ≡ 1 = eqb-true (get_or h 0 0) 1 (and_right (leb 1 (length h)) (eqb (get_or h 0 0) 1) q.0) in
    let r = body_back (drop 1 h) f.value v (bytes_drop 1 h b) q.1 f.after in
    let is : 0x01 ∷ vector 3 (encode_fields v) ≡ h = rw r.is (first_byte h long one) in
    (is, r.formed (subst (λ (l : List ℕ). length l ≤ 16384) (sym is) (leb-true (length h) 16384 p.0)))

-- ---- both in one, and what follows

-- the hello is well formed, and these are its bytes
pub record Encodes (v : ClientHello) (h : List ℕ) : Type 0 where
  pub formed : WellFormed v
  pub is : encode v ≡ h

-- THE READER ACCEPTS EXACTLY THE BYTES OF WELL-FORMED HELLOS, each as the hello whose bytes they are
pub accepted-exactly : (h : List ℕ) → Bytes h → (v : ClientHello) → (read h ≡ result v) ↔ Encodes v h
accepted-exactly h b v =
    (λ e. let r = encoded-read h b v e in record { formed = r.1; is = r.0 }, λ w. rw w.is at (read-encoded v w.formed))

-- no bytes are those of two well-formed hellos
pub encode_injective : (v w : ClientHello) → WellFormed v → WellFormed w → encode v ≡ encode w → v ≡ w
encode_injective v w f g e = same-result v w (sym (read-encoded v f) ∙ ap read e ∙ read-encoded w g)
