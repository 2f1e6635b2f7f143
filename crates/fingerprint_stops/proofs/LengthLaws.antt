-- How long the pieces are that are read from some bytes: with what is left they are all of them. Assumes nothing.
use Prim.Native.Nat.{ℕ, ◌+◌, ◌*◌, ◌%◌, ◌≤◌}
use mathlib.Core.Path.{◌≡◌, refl, ap, subst}
use mathlib.Core.Bool.{◌&&◌}
use mathlib.Core.List.{List}
use mathlib.Core.Option.{some}
use native.Mathlib.Omega.{arith}
use lib.ListN.{length, take, drop, length-drop}
use lib.Seq.{length-take-le}
use lib.Dec.{eqb, leb}
use borrow.Author.Tests.{leb-true, eqb-true}
use Rattle.wire.specs.Answer.{Answer, result, refused}
use Rattle.wire.specs.Numbers.{number}
use Rattle.wire.proofs.SumLaws.{and_right}
use Rattle.varint.specs.Varint.{class_at, read_of}
use Rattle.varint.specs.declared.Varint.{Varint}
use Rattle.fingerprint_bodies.specs.Entries.{Entry, entry, taken, number_at, vector_at, whole, at_least, at_most}
use Rattle.fingerprint_bodies.specs.Body.{Number, Parameter}
use Rattle.fingerprint_bodies.specs.Forms.{words_in, even_words, varint_found, varint_at, one_parameter}
use Rattle.fingerprint_bodies.proofs.BindLaws.{none-some, same_some, bind-some, cond-some, at_least-some, at_most-some}
use Rattle.fingerprint_bodies.proofs.FormLaws.{length-words-in}
use Rattle.fingerprint.specs.Reader.{Raw, one_extension, Fields, after_suites, after_session, fields}

pub taken-length : (n : ℕ) (bs : List ℕ) (e : Entry (List ℕ)) → taken n bs ≡ some e → (length bs ≡ n + length e.rest) × (length e.value ≡ n)
unfolding taken
taken-length n bs e q =
    let p = cond-some (leb n (length bs)) (entry (take n bs) (drop n bs)) e q in
    let l : n ≤ length bs = leb-true n (length bs) p.0 in
    subst (λ (x : Entry (List ℕ)). (length bs ≡ n + length x.rest) × (length x.value ≡ n)) p.1
    (omega (arith, l, length-drop n bs), length-take-le n bs l)

number-length : (width : ℕ) (bs : List ℕ) (e : Entry ℕ) → number_at width bs ≡ some e → length bs ≡ width + length e.rest
unfolding number_at
number-length width bs e q =
    let p = cond-some (leb width (length bs)) (entry (number 256 (take width bs)) (drop width bs)) e q in
    let l : width ≤ length bs = leb-true width (length bs) p.0 in
    subst (λ (x : Entry ℕ). length bs ≡ width + length x.rest) p.1 (omega (arith, l, length-drop width bs))

pub vector-length : (width : ℕ) (bs : List ℕ) (e : Entry (List ℕ)) → vector_at width bs ≡ some e
    → length bs ≡ width + length e.value + length e.rest
unfolding vector_at
vector-length width bs e q =
    let p = bind-some (number_at width bs) (λ n. taken n.value n.rest) e q in
    let t = taken-length p.value.value p.value.rest e p.after in
    omega (arith, number-length width bs p.value p.is, t.0, t.1)

pub whole_length : (width : ℕ) (bs l : List ℕ) → whole width bs ≡ some l → length bs ≡ width + length l
unfolding whole
whole_length width bs l q =
    let p = bind-some (vector_at width bs) _ l q in
    let c = cond-some (eqb (length p.value.rest) 0) p.value.value l p.after in
    let z : length p.value.rest ≡ 0 = eqb-true (length p.value.rest) 0 c.0 in
    omega (arith, vector-length width bs p.value p.is, z, ap length c.1)

pub words-length : (bs l : List ℕ) → even_words bs ≡ some l → length bs ≡ 2 * length l
unfolding even_words
words-length bs l q =
    let p = cond-some (leb 2 (length bs) && eqb (length bs % 2) 0) (words_in bs) l q in
    let even : length bs % 2 ≡ 0 = eqb-true (length bs % 2) 0 (and_right (leb 2 (length bs)) (eqb (length bs % 2) 0) p.0) in
    subst (λ (m : List ℕ). length bs ≡ 2 * length m) p.1 (length-words-in bs even)

-- ---- what is left is no longer

varint-shorter : (bs : List ℕ) (e : Entry Number) → varint_at bs ≡ some e → length e.rest ≤ length bs
unfolding varint_at
varint-shorter bs e q = go (read_of bs) q
  where
    go : (a : Answer Varint) → varint_found bs a ≡ some e → length e.rest ≤ length bs
    go (refused n) q = absurd (none-some q)
    go (result x) q =
        let z = same_some (entry (record { class = class_at bs; number = x.value }) (drop x.width bs)) e q in
        subst (λ (y : Entry Number). length y.rest ≤ length bs) z (omega (arith, length-drop x.width bs))

pub parameter-shorter : (bs : List ℕ) (e : Entry Parameter) → one_parameter bs ≡ some e → length e.rest ≤ length bs
unfolding one_parameter
parameter-shorter bs e q =
    let i = bind-some (varint_at bs) _ e q in
    let n = bind-some (varint_at i.value.rest) _ e i.after in
    let v = bind-some (taken n.value.value.number n.value.rest) _ e n.after in
    let p : Parameter = record { id = i.value.value; length_class = n.value.value.class; value = v.value.value } in
    let z = same_some (entry p v.value.rest) e v.after in
    subst (λ (y : Entry Parameter). length y.rest ≤ length bs) z
    (omega (
      arith,
      varint-shorter bs i.value i.is,
      varint-shorter i.value.rest n.value n.is,
      (taken-length n.value.value.number n.value.rest v.value v.is).0,
    ))

-- ---- an extension

pub extension-length : (bs : List ℕ) (e : Entry Raw) → one_extension bs ≡ some e → length bs ≡ 4 + length e.value.bytes + length e.rest
unfolding one_extension
extension-length bs e q =
    let t = bind-some (number_at 2 bs) _ e q in
    let b = bind-some (vector_at 2 t.value.rest) _ e t.after in
    let z = same_some (entry (record { type = t.value.value; bytes = b.value.value }) b.value.rest) e b.after in
    subst (λ (y : Entry Raw). length bs ≡ 4 + length y.value.bytes + length y.rest) z
    (omega (arith, number-length 2 bs t.value t.is, vector-length 2 t.value.rest b.value b.is))

-- ---- the fields

-- bytes that hold the compression and the block, after an id and suites
record Rest (id suites bs : List ℕ) (f : Fields) : Type 0 where
  id-is : f.session_id ≡ id
  suites-are : f.cipher_suites ≡ suites
  long : length bs ≡ 3 + length f.compression + length f.block

rest-length : (version random id suites bs : List ℕ) (f : Fields) → after_suites version random id suites bs ≡ some f → Rest id suites bs f
unfolding after_suites
rest-length version random id suites bs f q =
    let c = bind-some (vector_at 1 bs) _ f q in
    let a = bind-some (at_least 1 c.value.value) _ f c.after in
    let b = bind-some (whole 2 c.value.rest) _ f a.after in
    let same : c.value.value ≡ a.value = (at_least-some 1 c.value.value a.value a.is).1 in
    let made : Fields = record { version = version; random = random; session_id = id; cipher_suites = suites; compression = a.value; block = b.value } in
    let z = same_some made f b.after in
    subst (λ (g : Fields). Rest id suites bs g) z
    (record {
      id-is = refl;
      suites-are = refl;
      long = omega (arith, vector-length 1 bs c.value c.is, ap length same, whole_length 2 c.value.rest b.value b.is);
    })

suites-length : (version random id bs : List ℕ) (f : Fields) → after_session version random id bs ≡ some f
    → (f.session_id ≡ id) × (length bs ≡ 5 + 2 * length f.cipher_suites + length f.compression + length f.block)
unfolding after_session
suites-length version random id bs f q =
    let s = bind-some (vector_at 2 bs) _ f q in
    let w = bind-some (even_words s.value.value) _ f s.after in
    let r = rest-length version random id w.value s.value.rest f w.after in
    let words = words-length s.value.value w.value w.is in
    (r.id-is, omega (arith, vector-length 2 bs s.value s.is, words, ap length r.suites-are, r.long))

pub fields-length : (bs : List ℕ) (f : Fields) → fields bs ≡ some f
    → length bs ≡ 40 + length f.session_id + 2 * length f.cipher_suites + length f.compression + length f.block
unfolding fields
fields-length bs f q =
    let v = bind-some (taken 2 bs) _ f q in
    let r = bind-some (taken 32 v.value.rest) _ f v.after in
    let i = bind-some (vector_at 1 r.value.rest) _ f r.after in
    let m = bind-some (at_most 32 i.value.value) _ f i.after in
    let same : i.value.value ≡ m.value = (at_most-some 32 i.value.value m.value m.is).1 in
    let s = suites-length v.value.value r.value.value m.value i.value.rest f m.after in
    omega (
      arith,
      (taken-length 2 bs v.value v.is).0,
      (taken-length 32 v.value.rest r.value r.is).0,
      vector-length 1 r.value.rest i.value i.is,
      ap length same,
      ap length s.0,
      s.1,
    )
