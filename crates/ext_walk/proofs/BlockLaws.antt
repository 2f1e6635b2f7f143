-- The block of extensions ends the hello: each piece that the reader takes leaves what stands after it. Assumes nothing.
use Prim.Native.Nat.{ℕ, ◌+◌, ◌≤◌}
use mathlib.Core.Path.{◌≡◌, refl, sym, ap, ◌∙◌, subst}
use mathlib.Core.Bool.{Bool, true, false, ◌&&◌}
use mathlib.Core.List.{List}
use mathlib.Core.Option.{some}
use native.Mathlib.Omega.{arith}
use lib.ListN.{length, take, drop, get_or, length-drop}
use lib.Seq.{drop-drop}
use lib.Dec.{eqb, leb}
use borrow.Author.Tests.{leb-true}
use Rattle.wire.specs.Answer.{result}
use Rattle.wire.specs.Numbers.{number}
use Rattle.wire.proofs.AnswerLaws.{same-result, ask-yes}
use Rattle.wire.proofs.SumLaws.{and_left}
use Rattle.fingerprint_bodies.specs.Entries.{Entry, entry, taken, number_at, vector_at, whole, at_least, at_most}
use Rattle.fingerprint_bodies.specs.Forms.{even_words}
use Rattle.fingerprint_bodies.specs.Code.{is_whole}
use Rattle.fingerprint_bodies.proofs.PieceLaws.{whole_is, whole-not}
use Rattle.fingerprint_bodies.proofs.BindLaws.{none-some, same_some, bind-some, cond-some}
use Rattle.fingerprint.specs.Reader.{Fields, fields, after_session, after_suites, read_body, read_fields}
use Rattle.fingerprint.proofs.WalkTrips.{in_form-result}

-- the bytes are those from a place on
pub record Ends (bs h : List ℕ) : Type 0 where
  pub place : ℕ
  pub inside : place ≤ length h
  pub is : bs ≡ drop place h

ends_on : {a b c : List ℕ} → Ends a b → Ends b c → Ends a c
ends_on {a} {b} {c} p q =
    record {
      place = q.place + p.place;
      inside = omega (arith, p.inside, q.inside, ap length q.is, length-drop q.place c);
      is = p.is ∙ ap (drop p.place) q.is ∙ drop-drop p.place q.place c;
    }

-- ---- pieces

taken-ends : (n : ℕ) (bs : List ℕ) (e : Entry (List ℕ)) → taken n bs ≡ some e → Ends e.rest bs
unfolding taken
taken-ends n bs e x =
    let p = cond-some (leb n (length bs)) (entry (take n bs) (drop n bs)) e x in
    record { place = n; inside = leb-true n (length bs) p.0; is = ap (λ (y : Entry (List ℕ)). y.rest) (sym p.1) }

number-ends : (width : ℕ) (bs : List ℕ) (e : Entry ℕ) → number_at width bs ≡ some e → Ends e.rest bs
unfolding number_at
number-ends width bs e x =
    let p = cond-some (leb width (length bs)) (entry (number 256 (take width bs)) (drop width bs)) e x in
    record { place = width; inside = leb-true width (length bs) p.0; is = ap (λ (y : Entry ℕ). y.rest) (sym p.1) }

vector-ends : (width : ℕ) (bs : List ℕ) (e : Entry (List ℕ)) → vector_at width bs ≡ some e → Ends e.rest bs
unfolding vector_at
vector-ends width bs e x =
    let p = bind-some (number_at width bs) (λ n. taken n.value n.rest) e x in
    ends_on (taken-ends p.value.value p.value.rest e p.after) (number-ends width bs p.value p.is)

whole-ends : (width : ℕ) (bs l : List ℕ) → whole width bs ≡ some l → Ends l bs
unfolding is_whole
whole-ends width bs l x = go (is_whole width bs) refl
  where
    go : (b : Bool) → is_whole width bs ≡ b → Ends l bs
    go true t =
        record {
          place = width;
          inside = leb-true width (length bs) (and_left (leb width (length bs)) _ t);
          is = sym (same_some (drop width bs) l (sym (whole_is width bs t) ∙ x));
        }
    go false t = absurd (none-some (sym (whole-not width bs t) ∙ x))

-- ---- the fields

after-suites-ends : (version random id suites bs : List ℕ) (f : Fields) → after_suites version random id suites bs ≡ some f → Ends f.block bs
unfolding after_suites
after-suites-ends version random id suites bs f x =
    let c = bind-some (vector_at 1 bs) _ f x in
    let l = bind-some (at_least 1 c.value.value) _ f c.after in
    let b = bind-some (whole 2 c.value.rest) _ f l.after in
    let same : b.value ≡ f.block = ap (λ (y : Fields). y.block) (same_some _ f b.after) in
    subst (λ (y : List ℕ). Ends y bs) same
    (ends_on (whole-ends 2 c.value.rest b.value b.is) (vector-ends 1 bs c.value c.is))

after-session-ends : (version random id bs : List ℕ) (f : Fields) → after_session version random id bs ≡ some f → Ends f.block bs
unfolding after_session
after-session-ends version random id bs f x =
    let s = bind-some (vector_at 2 bs) _ f x in
    let w = bind-some (even_words s.value.value) _ f s.after in
    ends_on (after-suites-ends version random id w.value s.value.rest f w.after) (vector-ends 2 bs s.value s.is)

fields-ends : (bs : List ℕ) (f : Fields) → fields bs ≡ some f → Ends f.block bs
unfolding fields
fields-ends bs f x =
    let v = bind-some (taken 2 bs) _ f x in
    let r = bind-some (taken 32 v.value.rest) _ f v.after in
    let i = bind-some (vector_at 1 r.value.rest) _ f r.after in
    let m = bind-some (at_most 32 i.value.value) _ f i.after in
    ends_on (after-session-ends v.value.value r.value.value m.value i.value.rest f m.after)
    (ends_on (vector-ends 1 r.value.rest i.value i.is)
    (ends_on (taken-ends 32 v.value.rest r.value r.is) (taken-ends 2 bs v.value v.is)))

-- the hello has a first byte, and the block is what stands from some place after it on
pub block-ends : (h : List ℕ) (f : Fields) → read_fields h ≡ result f → (1 ≤ length h) × Ends f.block (drop 1 h)
unfolding read_fields read_body
block-ends h f x =
    let p = ask-yes (leb (length h) 16384) 16 _ f x in
    let q = ask-yes (leb 1 (length h) && eqb (get_or h 0 0) 1) 17 _ f p.1 in
    let b = in_form-result (whole 3 (drop 1 h)) 18 _ f q.1 in
    let i = in_form-result (fields b.value) 19 result f b.after in
    let same : some i.value ≡ some f = ap some (same-result i.value f i.after) in (
      leb-true 1 (length h) (and_left (leb 1 (length h)) (eqb (get_or h 0 0) 1) q.0),
      ends_on (fields-ends b.value f (i.is ∙ same)) (whole-ends 3 (drop 1 h) b.value b.is),
    )
