-- The extensions of a hello, written and walked: what is written is found, and what is found in bytes has those bytes. Assumes nothing.
use Prim.Native.Nat.{ℕ, zero, suc, ◌+◌, ◌≤◌, ◌<◌}
use mathlib.Core.Path.{◌≡◌, refl, sym, ap, ◌∙◌, subst}
use mathlib.Core.Bool.{Bool, true, false, not, ◌&&◌}
use mathlib.Core.List.{List, [], ◌∷◌, ◌++◌, map, map-append, append_assoc, append-nil}
use mathlib.Core.Option.{Option, none, some}
use native.Mathlib.Nat.{le_refl}
use native.Mathlib.Omega.{arith}
use lib.ListN.{length, length-append}
use lib.Seq.{append_snoc}
use lib.Dec.{eqb, ltb}
use borrow.Author.Tests.{lt-ltb, ltb-true, eq-eqb, eqb-true, not-true}
use Rattle.wire.specs.Answer.{Answer, result, ask, and_then}
use Rattle.wire.specs.Numbers.{Bytes, digits}
use Rattle.wire.specs.Vectors as bytes
use Rattle.wire.specs.Vectors.{vector}
use Rattle.wire.specs.Sums.{indicator, count, member, distinct}
use Rattle.wire.proofs.AnswerLaws.{apart, same-result, ask-yes, and_then-result}
use Rattle.wire.proofs.NumberLaws.{length_digits}
use Rattle.wire.proofs.SumLaws.{and_left, and_right, count-append, count-cons, member-nil, member-none, member-some, distinct-once, once-distinct}
use Rattle.fingerprint_bodies.specs.Entries.{Entry, entry, bind, number_at, vector_at}
use Rattle.fingerprint_bodies.specs.Body.{Body, kind, encode_body}
use Rattle.fingerprint_bodies.specs.Forms.{body_of, ids_new, within_counts}
use Rattle.fingerprint_bodies.specs.Conditions.{All, Fits}
use Rattle.fingerprint_bodies.proofs.BindLaws.{bind-some, same_some}
use Rattle.fingerprint_bodies.proofs.RoundTrip.{bytes_left, bytes-right, bytes_same, number_read, number-back, vector-read, vector-back, vector-bytes}
use Rattle.fingerprint_bodies.proofs.BodyLaws.{body-read, body-formed}
use Rattle.fingerprint.specs.ClientHello.{Extension, type_of, encode_extension, encode_extensions, FormedExtension}
use Rattle.fingerprint.specs.Reader.{in_form, Raw, one_extension, ask_body, extension, walk, all_extensions}

-- ---- a question whether something is in its form

pub record InForm {A B : Type 0} (x : Option A) (next : A → Answer B) (b : B) : Type 0 where
  pub value : A
  pub is : x ≡ some value
  pub after : next value ≡ result b

pub in_form-result : {A B : Type 0} (x : Option A) (n : ℕ) (next : A → Answer B) (b : B) → in_form x n next ≡ result b → InForm x next b
in_form-result none n next b e = absurd (apart e)
in_form-result (some a) n next b e = record { value = a; is = refl; after = e }

-- ---- the header and the bytes of the body

raw-read : (t : ℕ) (body rest : List ℕ) → t < 65536 → Fits 2 body → one_extension (bytes.extension t body ++ rest) ≡ some (entry (record { type = t; bytes = body }) rest)
unfolding one_extension bytes.extension bind
raw-read t body rest h f =
    rw (append_assoc (digits 256 2 t) (vector 2 body) rest, number_read 2 t (vector 2 body ++ rest) h, vector-read 2 body rest f)

-- bytes that begin with an extension
record RawIn (bs : List ℕ) (e : Entry Raw) : Type 0 where
  is : bytes.extension e.value.type e.value.bytes ++ e.rest ≡ bs
  small : e.value.type < 65536
  fits : Fits 2 e.value.bytes
  inner : Bytes e.value.bytes
  after : Bytes e.rest

raw-back : (bs : List ℕ) (e : Entry Raw) → Bytes bs → one_extension bs ≡ some e → RawIn bs e
unfolding one_extension bytes.extension
raw-back bs e b f =
    let made : Entry ℕ → Entry (List ℕ) → Entry Raw = λ t x. entry (record { type = t.value; bytes = x.value }) x.rest in
    let p = bind-some (number_at 2 bs) (λ t. bind (vector_at 2 t.rest) (λ x. some (made t x))) e f in
    let t = p.value in
    let q = bind-some (vector_at 2 t.rest) (λ x. some (made t x)) e p.after in
    let x = q.value in
    let d = number-back 2 bs t b p.is in
    let b1 : Bytes t.rest = bytes-right (digits 256 2 t.value) t.rest (bytes_same d.0 b) in
    let w = vector-back 2 t.rest x b1 q.is in
    let b2 : Bytes (vector 2 x.value) = bytes_left (vector 2 x.value) x.rest (bytes_same w.0 b1) in
    subst (λ (y : Entry Raw). RawIn bs y) (same_some (made t x) e q.after)
    (record {
      is = rw (append_assoc (digits 256 2 t.value) (vector 2 x.value) x.rest, w.0) d.0;
      small = d.1;
      fits = w.1;
      inner = vector-bytes 2 x.value (vector 2 x.value) refl b2;
      after = bytes-right (vector 2 x.value) x.rest (bytes_same w.0 b1);
    })

-- ---- its questions

ask-read : (done : List Extension) (e : Extension) → FormedExtension e → member e.type (map type_of done) ≡ false → length done < 64
    → ask_body done (record { type = e.type; bytes = encode_body e.body }) ≡ result e
unfolding ask_body
ask-read done e h new few =
    let b = body-read e.body h.body in
    let is : body_of (kind e.type) (encode_body e.body) ≡ some e.body = rw h.kinds at b.is in
    rw (new, is, b.new, b.few, lt-ltb (length done) 64 few)

-- an extension that passed its questions after those done
record Passes (done : List Extension) (r : Raw) (x : Extension) : Type 0 where
  type-is : x.type ≡ r.type
  body_is : encode_body x.body ≡ r.bytes
  formed : FormedExtension x
  new : member x.type (map type_of done) ≡ false
  few : length done < 64

ask-back : (done : List Extension) (r : Raw) (x : Extension) → Bytes r.bytes → r.type < 65536 → Fits 2 r.bytes → ask_body done r ≡ result x → Passes done r x
unfolding ask_body
ask-back done r x b small fits e =
    let made : Body → Extension = λ body. record { type = r.type; body = body } in
    let counted : Body → Answer Extension = λ body. ask (within_counts body && ltb (length done) 64) 23 (result (made body)) in
    let rest : Body → Answer Extension = λ body. ask (ids_new body) 22 (counted body) in
    let p = ask-yes (not (member r.type (map type_of done))) 21 (in_form (body_of (kind r.type) r.bytes) 21 rest) x e in
    let q = in_form-result (body_of (kind r.type) r.bytes) 21 rest x p.1 in
    let i = ask-yes (ids_new q.value) 22 (counted q.value) x q.after in
    let c = ask-yes (within_counts q.value && ltb (length done) 64) 23 (result (made q.value)) x i.1 in
    let within = and_left (within_counts q.value) (ltb (length done) 64) c.0 in
    let f = body-formed (kind r.type) r.bytes q.value b q.is i.0 within in
    subst (λ (y : Extension). Passes done r y) (same-result (made q.value) x c.1)
    (record {
      type-is = refl;
      body_is = f.0;
      formed = record { small = small; kinds = f.1; body = f.2; fits = subst (λ (l : List ℕ). Fits 2 l) (sym f.0) fits };
      new = not-true (member r.type (map type_of done)) p.0;
      few = ltb-true (length done) 64 (and_right (within_counts q.value) (ltb (length done) 64) c.0);
    })

-- ---- one extension

extension-read : (done : List Extension) (e : Extension) (rest : List ℕ) → FormedExtension e → member e.type (map type_of done) ≡ false → length done < 64
    → extension done (encode_extension e ++ rest) ≡ result (entry e rest)
unfolding extension encode_extension
extension-read done e rest h new few = rw (raw-read e.type (encode_body e.body) rest h.small h.fits, ask-read done e h new few)

record ExtensionIn (done : List Extension) (bs : List ℕ) (e : Entry Extension) : Type 0 where
  is : encode_extension e.value ++ e.rest ≡ bs
  formed : FormedExtension e.value
  new : member e.value.type (map type_of done) ≡ false
  few : length done < 64
  after : Bytes e.rest

extension-back : (done : List Extension) (bs : List ℕ) (e : Entry Extension) → Bytes bs → extension done bs ≡ result e → ExtensionIn done bs e
unfolding extension encode_extension
extension-back done bs e b f =
    let p = in_form-result (one_extension bs) 20 (λ r. and_then (ask_body done r.value) (λ x. result (entry x r.rest))) e f in
    let r = p.value in
    let i = raw-back bs r b p.is in
    let q = and_then-result (ask_body done r.value) (λ x. result (entry x r.rest)) e p.after in
    let a = ask-back done r.value q.value i.inner i.small i.fits q.is in
    subst (λ (y : Entry Extension). ExtensionIn done bs y) (same-result (entry q.value r.rest) e q.after)
    (record { is = rw (a.type-is, a.body_is) i.is; formed = a.formed; new = a.new; few = a.few; after = i.after })

-- ---- types once each

-- a type among others that are once each is not among those before it
not-before : (t : ℕ) (before after : List ℕ) → distinct (before ++ t ∷ after) ≡ true → member t before ≡ false
not-before t before after h =
    let one : count t (t ∷ after) ≡ 1 + count t after = count-cons t t after ∙ rw (eq-eqb t t refl) in
    member-none t before (omega (arith, distinct-once (before ++ t ∷ after) h t, count-append t before (t ∷ after), one))

-- one more that is not among them
once_more : (t : ℕ) (l : List ℕ) → distinct l ≡ true → member t l ≡ false → distinct (l ++ t ∷ []) ≡ true
once_more t l d m = once-distinct (l ++ t ∷ []) (λ x. rw (count-append x l (t ∷ []), count-cons x t []) (go x (eqb x t) refl))
  where
    go : (x : ℕ) (b : Bool) → eqb x t ≡ b → count x l + (indicator b + count x []) ≤ 1
    go x true e = rw (eqb-true x t e) (omega (arith, member-some t l m, member-some t [] (member-nil t)))
    go x false e = omega (arith, distinct-once l d x, member-some x [] (member-nil x))

-- ---- all of them

pub walk_none : (f : ℕ) (done : List Extension) → walk f done [] ≡ result done
unfolding walk
walk_none zero done = refl
walk_none (suc f) done = refl

pub walk_turn : (f : ℕ) (done : List Extension) (bs : List ℕ) → 1 ≤ length bs → walk (suc f) done bs ≡ and_then (extension done bs) (λ e. walk f (done ++ (e.value ∷ [])) e.rest)
unfolding walk
walk_turn f done [] h = absurd (omega arith)
walk_turn f done (b ∷ bs) h = refl

extension-takes : (e : Extension) (rest : List ℕ) → 1 + length rest ≤ length (encode_extension e ++ rest)
unfolding encode_extension bytes.extension
extension-takes e rest =
    let x = digits 256 2 e.type in
    let v = vector 2 (encode_body e.body) in
    omega (arith, length-append (x ++ v) rest, length-append x v, length_digits 256 2 e.type)

walk-read : (es done : List Extension) (f : ℕ) → All FormedExtension es → distinct (map type_of (done ++ es)) ≡ true → length (done ++ es) ≤ 64
    → length (encode_extensions es) ≤ f → walk f done (encode_extensions es) ≡ result (done ++ es)
unfolding encode_extensions
walk-read [] done f h d l s = walk_none f done ∙ ap (λ x. result x) (sym (append-nil done))
walk-read (e ∷ es) done zero h d l s = absurd (omega (arith, s, extension-takes e (encode_extensions es)))
walk-read (e ∷ es) done (suc f) h d l s =
    let takes = extension-takes e (encode_extensions es) in
    let new : member e.type (map type_of done) ≡ false = not-before e.type (map type_of done) (map type_of es) (rw (map-append type_of done (e ∷ es)) at d) in
    let few : length done < 64 = omega (arith, l, length-append done (e ∷ es)) in
    let same : (done ++ (e ∷ [])) ++ es ≡ done ++ e ∷ es = append_snoc done e es in
    walk_turn f done (encode_extension e ++ encode_extensions es) (omega (arith, takes))
    ∙ rw (
      extension-read done e (encode_extensions es) h.0 new few,
      walk-read es (done ++ (e ∷ [])) f h.1 (rw same d) (rw same l) (omega (arith, s, takes)),
      same,
    )

-- what a walk over bytes adds to those done
record Walked (done : List Extension) (bs : List ℕ) (es : List Extension) : Type 0 where
  added : List Extension
  all : done ++ added ≡ es
  is : encode_extensions added ≡ bs
  formed : All FormedExtension added
  once : distinct (map type_of es) ≡ true
  few : length es ≤ 64

walk_end : (done es : List Extension) → distinct (map type_of done) ≡ true → length done ≤ 64 → result done ≡ result es → Walked done [] es
unfolding encode_extensions
walk_end done es d l e =
    let same : done ≡ es = same-result done es e in
    record { added = []; all = append-nil done ∙ same; is = refl; formed = tt; once = rw same at d; few = rw same at l }

walk-back : (f : ℕ) (done : List Extension) (bs : List ℕ) (es : List Extension) → Bytes bs → length bs ≤ f → distinct (map type_of done) ≡ true → length done ≤ 64
    → walk f done bs ≡ result es → Walked done bs es
unfolding walk encode_extensions
walk-back zero done [] es b h d l e = walk_end done es d l e
walk-back zero done (x ∷ bs) es b h d l e = absurd (omega arith)
walk-back (suc f) done [] es b h d l e = walk_end done es d l e
walk-back (suc f) done (x ∷ bs) es b h d l e =
    let p = and_then-result (extension done (x ∷ bs)) (λ y. walk f (done ++ (y.value ∷ [])) y.rest) es e in
    let v = p.value.value in
    let r = p.value.rest in
    let i = extension-back done (x ∷ bs) p.value b p.is in
    let once : distinct (map type_of (done ++ (v ∷ []))) ≡ true = rw (map-append type_of done (v ∷ [])) (once_more v.type (map type_of done) d i.new) in
    let short : length r ≤ f = omega (arith, h, extension-takes v r, ap length i.is) in
    let w = walk-back f (done ++ (v ∷ [])) r es i.after short once (omega (arith, i.few, length-append done (v ∷ []))) p.after in
    record {
      added = v ∷ w.added;
      all = sym (append_snoc done v w.added) ∙ w.all;
      is = rw w.is i.is;
      formed = (i.formed, w.formed);
      once = w.once;
      few = w.few;
    }

pub extensions-read : (es : List Extension) → All FormedExtension es → distinct (map type_of es) ≡ true → length es ≤ 64 → all_extensions (encode_extensions es) ≡ result es
unfolding all_extensions
extensions-read es h d l = walk-read es [] (length (encode_extensions es)) h d l (le_refl (length (encode_extensions es)))

-- the extensions that bytes hold
pub record ExtensionsIn (bs : List ℕ) (es : List Extension) : Type 0 where
  pub is : encode_extensions es ≡ bs
  pub formed : All FormedExtension es
  pub once : distinct (map type_of es) ≡ true
  pub few : length es ≤ 64

pub extensions-back : (bs : List ℕ) (es : List Extension) → Bytes bs → all_extensions bs ≡ result es → ExtensionsIn bs es
unfolding all_extensions distinct
extensions-back bs es b e =
    let w = walk-back (length bs) [] bs es b (le_refl (length bs)) refl (omega arith) e in
    record { is = rw w.all at w.is; formed = rw w.all at w.formed; once = w.once; few = w.few }
