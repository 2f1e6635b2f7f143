-- Pieces of a message, written and read: what is written is read, and what is read from bytes is what they write. Assumes nothing.
use Prim.Native.Nat.{ℕ, zero, suc, ◌/◌, ◌^◌, ◌<◌}
use mathlib.Core.Path.{◌≡◌, refl, sym, ◌∙◌, subst}
use mathlib.Core.Bool.{cond}
use mathlib.Core.List.{List, [], ◌∷◌, ◌++◌, append_assoc, append-nil}
use mathlib.Core.Option.{none, some}
use native.Mathlib.Omega.{arith}
use lib.ListN.{length, take, drop, length-append, take-append-drop}
use lib.Seq.{take_at, drop_at, length-take-le}
use lib.Dec.{eqb, leb}
use borrow.Author.Tests.{leb-true, eqb-true}
use Rattle.wire.specs.Answer.{Answer, result, refused}
use Rattle.wire.specs.Numbers.{Bytes, digits, number}
use Rattle.wire.specs.Vectors.{vector}
use Rattle.wire.proofs.NumberLaws.{length_digits, above, above-number_on, number_digits, digits_number, bytes_take, bytes_drop}
use Rattle.varint.specs.Varint.{Holds, class_at, form, read_of}
use Rattle.varint.specs.declared.Varint.{Varint}
use Rattle.varint.proofs.RoundTrip.{read-formed}
use Rattle.fingerprint_bodies.specs.Entries.{Entry, entry, bind, taken, number_at, vector_at, whole}
use Rattle.fingerprint_bodies.specs.Body.{Number}
use Rattle.fingerprint_bodies.specs.Forms.{varint_found, varint_at}
use Rattle.fingerprint_bodies.specs.Conditions.{Fits}
use Rattle.fingerprint_bodies.proofs.BindLaws.{none-some, same_some, bind-some, cond-some}
use Rattle.fingerprint_bodies.proofs.PieceLaws.{taken-there, number-there}

-- ---- parts of bytes are bytes

pub bytes_left : (a b : List ℕ) → Bytes (a ++ b) → Bytes a
bytes_left a b h = subst (λ (l : List ℕ). Bytes l) (take_at a b (length a) refl) (bytes_take (length a) (a ++ b) h)

pub bytes-right : (a b : List ℕ) → Bytes (a ++ b) → Bytes b
bytes-right a b h = subst (λ (l : List ℕ). Bytes l) (drop_at a b (length a) refl) (bytes_drop (length a) (a ++ b) h)

pub bytes_same : {a b : List ℕ} → a ≡ b → Bytes b → Bytes a
bytes_same e h = subst (λ (l : List ℕ). Bytes l) (sym e) h

-- ---- so many bytes

pub taken-read : (a rest : List ℕ) (n : ℕ) → length a ≡ n → taken n (a ++ rest) ≡ some (entry a rest)
taken-read a rest n e = taken-there n (a ++ rest) (omega (arith, e, length-append a rest)) ∙ rw (take_at a rest n e, drop_at a rest n e)

pub taken_back : (n : ℕ) (bs : List ℕ) (e : Entry (List ℕ)) → taken n bs ≡ some e → (e.value ++ e.rest ≡ bs) × (length e.value ≡ n)
unfolding taken
taken_back n bs e f =
    let p = cond-some (leb n (length bs)) (entry (take n bs) (drop n bs)) e f in
    subst (λ (x : Entry (List ℕ)). (x.value ++ x.rest ≡ bs) × (length x.value ≡ n)) p.1
    (take-append-drop n bs, length-take-le n bs (leb-true n (length bs) p.0))

-- ---- a number in so many bytes

above-none : (n v : ℕ) → v < 256 ^ n → above 256 n v ≡ 0
unfolding above
above-none zero v h = omega arith
above-none (suc n) v h = above-none n (v / 256) (omega arith)

none_above : (n v : ℕ) → above 256 n v ≡ 0 → v < 256 ^ n
unfolding above
none_above zero v e = omega (arith, e)
none_above (suc n) v e = omega (arith, none_above n (v / 256) e)

pub number-below : (ds : List ℕ) → Bytes ds → number 256 ds < 256 ^ length ds
unfolding number
number-below ds h = none_above (length ds) (number 256 ds) (above-number_on 256 ds 0 h)

pub number_read : (width v : ℕ) (rest : List ℕ) → v < 256 ^ width → number_at width (digits 256 width v ++ rest) ≡ some (entry v rest)
number_read width v rest h =
    let d = digits 256 width v in
    let long : length d ≡ width = length_digits 256 width v in
    number-there width (d ++ rest) (omega (arith, long, length-append d rest))
    ∙ rw (take_at d rest width long, drop_at d rest width long, number_digits 256 width v (above-none width v h))

pub number-back : (width : ℕ) (bs : List ℕ) (e : Entry ℕ) → Bytes bs → number_at width bs ≡ some e → (digits 256 width e.value ++ e.rest ≡ bs) × (e.value < 256 ^ width)
unfolding number_at
number-back width bs e b f =
    let p = cond-some (leb width (length bs)) (entry (number 256 (take width bs)) (drop width bs)) e f in
    let long : length (take width bs) ≡ width = length-take-le width bs (leb-true width (length bs) p.0) in
    let same : digits 256 width (number 256 (take width bs)) ≡ take width bs = rw long at (digits_number 256 (take width bs) (bytes_take width bs b)) in
    subst (λ (x : Entry ℕ). (digits 256 width x.value ++ x.rest ≡ bs) × (x.value < 256 ^ width)) p.1
    (rw same (take-append-drop width bs), rw long at (number-below (take width bs) (bytes_take width bs b)))

-- ---- a vector

pub vector-read : (width : ℕ) (bs rest : List ℕ) → Fits width bs → vector_at width (vector width bs ++ rest) ≡ some (entry bs rest)
unfolding vector_at vector bind
vector-read width bs rest h =
    rw (append_assoc (digits 256 width (length bs)) bs rest, number_read width (length bs) (bs ++ rest) h) (taken-read bs rest (length bs) refl)

pub vector-back : (width : ℕ) (bs : List ℕ) (e : Entry (List ℕ)) → Bytes bs → vector_at width bs ≡ some e → (vector width e.value ++ e.rest ≡ bs) × Fits width e.value
unfolding vector_at vector
vector-back width bs e b f =
    let p = bind-some (number_at width bs) (λ n. taken n.value n.rest) e f in
    let n = number-back width bs p.value b p.is in
    let t = taken_back p.value.value p.value.rest e p.after in
    (rw (t.1, append_assoc (digits 256 width p.value.value) e.value e.rest, t.0) n.0, rw t.1 n.1)

-- the bytes of a vector in bytes
pub vector-bytes : (width : ℕ) (v bs : List ℕ) → vector width v ≡ bs → Bytes bs → Bytes v
unfolding vector
vector-bytes width v bs e b = bytes-right (digits 256 width (length v)) v (bytes_same e b)

-- ---- a vector that reaches the end

pub whole-read : (width : ℕ) (bs : List ℕ) → Fits width bs → whole width (vector width bs) ≡ some bs
unfolding whole bind
whole-read width bs h = let z = vector-read width bs [] h in rw (rw append-nil at z)

no_length : {A : Type 0} (l : List A) → length l ≡ 0 → l ≡ []
no_length [] e = refl
no_length (x ∷ l) e = absurd (omega (arith, e))

pub whole_back : (width : ℕ) (bs v : List ℕ) → Bytes bs → whole width bs ≡ some v → (vector width v ≡ bs) × Fits width v
unfolding whole
whole_back width bs v b f =
    let p = bind-some (vector_at width bs) (λ x. cond (eqb (length x.rest) 0) (some x.value) none) v f in
    let c = cond-some (eqb (length p.value.rest) 0) p.value.value v p.after in
    let n = vector-back width bs p.value b p.is in
    let z : p.value.rest ≡ [] = no_length p.value.rest (eqb-true (length p.value.rest) 0 c.0) in
    (rw c.1 at (rw (z, append-nil) at n.0), rw c.1 at n.1)

-- ---- a variable-length integer

varint-found : (bs : List ℕ) (e : Entry Number) → Bytes bs → (a : Answer Varint) → read_of bs ≡ a → varint_found bs a ≡ some e → (form e.value.class e.value.number ++ e.rest ≡ bs) × Holds e.value.class e.value.number
varint-found bs e b (result x) f g =
    let r = read-formed bs x b f in
    subst (λ (y : Entry Number). (form y.value.class y.value.number ++ y.rest ≡ bs) × Holds y.value.class y.value.number)
    (same_some (entry (record { class = class_at bs; number = x.value }) (drop x.width bs)) e g)
    (rw (← r.bytes) (take-append-drop x.width bs), record { known = r.known; below = r.below })
varint-found bs e b (refused n) f g = absurd (none-some g)

pub varint-back : (bs : List ℕ) (e : Entry Number) → Bytes bs → varint_at bs ≡ some e → (form e.value.class e.value.number ++ e.rest ≡ bs) × Holds e.value.class e.value.number
unfolding varint_at
varint-back bs e b f = varint-found bs e b (read_of bs) refl f
