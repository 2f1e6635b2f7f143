-- A body that is read from bytes is a value in its form, and they are its bytes. Assumes nothing.
use Prim.Native.Nat.{ℕ, zero, suc, ◌+◌, ◌*◌, ◌/◌, ◌%◌, ◌≤◌, ◌<◌}
use mathlib.Core.Path.{◌≡◌, refl, sym, ap, ◌∙◌, subst}
use mathlib.Core.Bool.{true, cond, ◌&&◌}
use mathlib.Core.List.{List, [], ◌∷◌, ◌++◌, append_assoc}
use mathlib.Core.Option.{Option, none, some}
use native.Mathlib.Nat.{le_refl}
use native.Mathlib.Omega.{arith}
use lib.ListN.{length, get_or, length-append}
use lib.Dec.{eqb, leb}
use borrow.Author.Tests.{leb-true, eqb-true}
use Rattle.wire.specs.Numbers.{Bytes, digits, number, number_on}
use Rattle.wire.specs.Vectors as bytes
use Rattle.wire.specs.Vectors.{vector, words}
use Rattle.wire.proofs.NumberLaws.{length_digits}
use Rattle.wire.proofs.SumLaws.{and_left, and_right}
use Rattle.wire.proofs.VectorLaws.{length-vector, length-words}
use Rattle.varint.specs.Varint.{Holds, form}
use Rattle.varint.proofs.TableLaws.{width_positive}
use Rattle.varint.proofs.RoundTrip.{length-form}
use Rattle.fingerprint_bodies.specs.Entries.{Entry, entry, bind, taken, number_at, vector_at, whole, at_least, entries, all_entries}
use Rattle.fingerprint_bodies.specs.Body.{Share, Number, Parameter, Body, Kind, name, groups, algorithms, protocols, versions, shares, parameters, other, server-name, supported-groups, signature-algorithms, application-protocols, supported-versions, key-shares, transport-parameters, unread, kind_of, encode_share, encode_shares, encode_parameter, encode_parameters, encode_body}
use Rattle.fingerprint_bodies.specs.Forms.{words_in, even_words, word_list, one_entry, server_name, one_name, some_names, protocol_names, one_share, key_shares, varint_at, one_parameter, transport_parameters, body_of, ids_new, within_counts}
use Rattle.fingerprint_bodies.specs.Conditions.{Fits, All, FormedWords, FormedName, FormedNames, FormedShare, FormedShares, FormedParameter, FormedEntry, FormedBody}
use Rattle.fingerprint_bodies.proofs.BindLaws.{bind-some, mapped-some, cond-next, cond-some, at_least-some, same_some}
use Rattle.fingerprint_bodies.proofs.RoundTrip.{bytes_left, bytes-right, bytes_same, taken_back, number-back, vector-back, vector-bytes, whole_back, varint-back}
use Rattle.fingerprint_bodies.proofs.EntryTrips.{InTurn, Back, entries-back}

-- ---- lists of 16-bit numbers

pub words-in : (bs : List ℕ) → Bytes bs → length bs % 2 ≡ 0 → words (words_in bs) ≡ bs
unfolding words_in words number number_on digits
words-in [] b e = refl
words-in (x ∷ []) b e = absurd (omega (arith, e))
words-in (x ∷ y ∷ bs) b e =
    let high : ((0 * 256 + x) * 256 + y) / 256 % 256 ≡ x = omega (arith, b 0, b 1) in
    let low : ((0 * 256 + x) * 256 + y) % 256 ≡ y = omega (arith, b 0, b 1) in
    rw (high, low, words-in bs (λ i. b (suc (suc i))) (omega (arith, e)))

pub small-words : (bs : List ℕ) → Bytes bs → (j : ℕ) → get_or (words_in bs) j 0 < 65536
unfolding words_in number number_on
small-words [] b j = omega arith
small-words (x ∷ []) b j = omega arith
small-words (x ∷ y ∷ bs) b zero = omega (arith, b 0, b 1)
small-words (x ∷ y ∷ bs) b (suc j) = small-words bs (λ i. b (suc (suc i))) j

-- the numbers that bytes hold, and at least one
pub record WordsOf (bs l : List ℕ) : Type 0 where
  pub is : words l ≡ bs
  pub some-there : 1 ≤ length l
  pub small : (j : ℕ) → get_or l j 0 < 65536

pub even-back : (bs l : List ℕ) → Bytes bs → even_words bs ≡ some l → WordsOf bs l
unfolding even_words
even-back bs l b e =
    let p = cond-some (leb 2 (length bs) && eqb (length bs % 2) 0) (words_in bs) l e in
    let long : 2 ≤ length bs = leb-true 2 (length bs) (and_left (leb 2 (length bs)) (eqb (length bs % 2) 0) p.0) in
    let even : length bs % 2 ≡ 0 = eqb-true (length bs % 2) 0 (and_right (leb 2 (length bs)) (eqb (length bs % 2) 0) p.0) in
    let same : words (words_in bs) ≡ bs = words-in bs b even in
    subst (λ (m : List ℕ). WordsOf bs m) p.1
    (record { is = same; some-there = omega (arith, long, length-words (words_in bs), ap length same); small = small-words bs b })

pub words_back : (width : ℕ) (bs l : List ℕ) → Bytes bs → word_list width bs ≡ some l → (vector width (words l) ≡ bs) × (length l ≤ 64 → FormedWords l)
unfolding word_list
words_back width bs l b e =
    let p = bind-some (whole width bs) even_words l e in
    let w = whole_back width bs p.value b p.is in
    let v = even-back p.value l (vector-bytes width p.value bs w.0 b) p.after in
    (rw v.is w.0, λ few. record { some = v.some-there; few = few; small = v.small })

-- ---- a server name

entry-back : (bs n : List ℕ) → Bytes bs → one_entry bs ≡ some n → (0x00 ∷ vector 2 n ≡ bs) × FormedName 2 n
unfolding one_entry digits
entry-back bs n b e =
    let p = bind-some (number_at 1 bs) (λ t. cond (eqb t.value 0) (bind (whole 2 t.rest) (λ m. at_least 1 m)) none) n e in
    let t = p.value in
    let c = cond-next (eqb t.value 0) (bind (whole 2 t.rest) (λ m. at_least 1 m)) n p.after in
    let q = bind-some (whole 2 t.rest) (λ m. at_least 1 m) n c.1 in
    let a = at_least-some 1 q.value n q.after in
    let d = number-back 1 bs t b p.is in
    let z : t.value ≡ 0 = eqb-true t.value 0 c.0 in
    let front : 0x00 ∷ t.rest ≡ bs = rw z at d.0 in
    let rest-bytes : Bytes t.rest = bytes-right (0x00 ∷ []) t.rest (bytes_same front b) in
    let w = whole_back 2 t.rest q.value rest-bytes q.is in
    let v : vector 2 n ≡ t.rest = rw a.1 at w.0 in
    (rw v front, record { some = a.0; fits = rw a.1 at w.1; bytes = vector-bytes 2 n t.rest v rest-bytes })

name_back : (bs n : List ℕ) → Bytes bs → server_name bs ≡ some n → (vector 2 (0x00 ∷ vector 2 n) ≡ bs) × FormedEntry n
unfolding server_name
name_back bs n b e =
    let p = bind-some (whole 2 bs) one_entry n e in
    let w = whole_back 2 bs p.value b p.is in
    let o = entry-back p.value n (vector-bytes 2 p.value bs w.0 b) p.after in
    (rw o.0 w.0, record { name = o.1; fits = subst (λ (l : List ℕ). Fits 2 l) (sym o.0) w.1 })

-- ---- names, key shares and parameters

-- a vector of one byte or more
pub named_back : (width : ℕ) (bs : List ℕ) (e : Entry (List ℕ)) → Bytes bs → vector_at width bs ≡ some e → 1 ≤ length e.value
    → (vector width e.value ++ e.rest ≡ bs) × FormedName width e.value
named_back width bs e b f h =
    let w = vector-back width bs e b f in
    let v : Bytes (vector width e.value) = bytes_left (vector width e.value) e.rest (bytes_same w.0 b) in
    (w.0, record { some = h; fits = w.1; bytes = vector-bytes width e.value (vector width e.value) refl v })

one_name-back : Back one_name (λ n. vector 1 n) (λ n. FormedName 1 n)
unfolding one_name
one_name-back bs e b f =
    let p = bind-some (vector_at 1 bs) (λ n. cond (leb 1 (length n.value)) (some n) none) e f in
    let c = cond-some (leb 1 (length p.value.value)) p.value e p.after in
    named_back 1 bs e b (p.is ∙ ap (λ x. some x) c.1) (rw c.1 at (leb-true 1 (length p.value.value) c.0))

one_share-back : Back one_share encode_share (λ s. FormedShare s)
unfolding one_share encode_share
one_share-back bs e b f =
    let after-group : Entry ℕ → Option (Entry Share) =
    λ g. bind (vector_at 2 g.rest) (λ k. cond (leb 1 (length k.value)) (some (entry (record { group = g.value; key = k.value }) k.rest)) none) in
    let p = bind-some (number_at 2 bs) after-group e f in
    let g = p.value in
    let q = bind-some (vector_at 2 g.rest) (λ k. cond (leb 1 (length k.value)) (some (entry (record { group = g.value; key = k.value }) k.rest)) none) e p.after in
    let k = q.value in
    let c = cond-some (leb 1 (length k.value)) (entry (record { group = g.value; key = k.value }) k.rest) e q.after in
    let d = number-back 2 bs g b p.is in
    let w = named_back 2 g.rest k (bytes-right (digits 256 2 g.value) g.rest (bytes_same d.0 b)) q.is (leb-true 1 (length k.value) c.0) in
    subst (λ (x : Entry Share). ((digits 256 2 x.value.group ++ vector 2 x.value.key) ++ x.rest ≡ bs) × FormedShare x.value) c.1
    (rw (append_assoc (digits 256 2 g.value) (vector 2 k.value) k.rest, w.0) d.0, record { small = d.1; key = w.1 })

one_parameter-back : Back one_parameter encode_parameter (λ p. FormedParameter p)
unfolding one_parameter encode_parameter
one_parameter-back bs e b f =
    let made : Entry Number → Entry Number → Entry (List ℕ) → Entry Parameter =
    λ i n v. entry (record { id = i.value; length_class = n.value.class; value = v.value }) v.rest in
    let after-length : Entry Number → Entry Number → Option (Entry Parameter) = λ i n. bind (taken n.value.number n.rest) (λ v. some (made i n v)) in
    let p = bind-some (varint_at bs) (λ i. bind (varint_at i.rest) (λ n. after-length i n)) e f in
    let i = p.value in
    let q = bind-some (varint_at i.rest) (λ n. after-length i n) e p.after in
    let n = q.value in
    let r = bind-some (taken n.value.number n.rest) (λ v. some (made i n v)) e q.after in
    let v = r.value in
    let ib = varint-back bs i b p.is in
    let b1 : Bytes i.rest = bytes-right (form i.value.class i.value.number) i.rest (bytes_same ib.0 b) in
    let nb = varint-back i.rest n b1 q.is in
    let b2 : Bytes n.rest = bytes-right (form n.value.class n.value.number) n.rest (bytes_same nb.0 b1) in
    let t = taken_back n.value.number n.rest v r.is in
    let size : Holds n.value.class (length v.value) = rw t.1 nb.1 in
    subst (λ (x : Entry Parameter). ((form x.value.id.class x.value.id.number ++ (form x.value.length_class (length x.value.value) ++ x.value.value)) ++ x.rest ≡ bs) × FormedParameter x.value)
    (same_some (made i n v) e r.after) (
      rw (
        t.1,
        append_assoc (form i.value.class i.value.number) (form n.value.class n.value.number ++ v.value) v.rest,
        append_assoc (form n.value.class n.value.number) v.value v.rest,
        t.0,
        nb.0,
      ) ib.0,
      record { id = ib.1; size = size; bytes = bytes_left v.value v.rest (bytes_same t.0 b2) },
    )

-- ---- the lists

pub names-in-turn : InTurn (λ n. vector 1 n) bytes.protocols
unfolding bytes.protocols
names-in-turn = record { none_left = refl; next = λ n ns. refl }

pub shares-in-turn : InTurn encode_share encode_shares
unfolding encode_shares
shares-in-turn = record { none_left = refl; next = λ s ss. refl }

pub parameters-in-turn : InTurn encode_parameter encode_parameters
unfolding encode_parameters
parameters-in-turn = record { none_left = refl; next = λ p ps. refl }

-- each entry takes a byte or more
pub name-takes : (n : List ℕ) → FormedName 1 n → 1 ≤ length (vector 1 n)
name-takes n h = omega (arith, length-vector 1 n)

pub share-takes : (s : Share) → FormedShare s → 1 ≤ length (encode_share s)
unfolding encode_share
share-takes s h = omega (arith, length-append (digits 256 2 s.group) (vector 2 s.key), length_digits 256 2 s.group)

pub parameter-takes : (p : Parameter) → FormedParameter p → 1 ≤ length (encode_parameter p)
unfolding encode_parameter
parameter-takes p h =
    let i = form p.id.class p.id.number in
    let r = form p.length_class (length p.value) ++ p.value in
    omega (arith, length-append i r, length-form p.id.class p.id.number, width_positive p.id.class h.id.known)

names-back : (bs : List ℕ) (l : List (List ℕ)) → Bytes bs → protocol_names bs ≡ some l → (vector 2 (bytes.protocols l) ≡ bs) × (length l ≤ 16 → FormedNames l)
unfolding protocol_names some_names all_entries
names-back bs l b e =
    let p = bind-some (whole 2 bs) some_names l e in
    let w = whole_back 2 bs p.value b p.is in
    let q = bind-some (all_entries one_name p.value) (λ ns. at_least 1 ns) l p.after in
    let a = at_least-some 1 q.value l q.after in
    let inner = vector-bytes 2 p.value bs w.0 b in
    let found : entries one_name (length p.value) p.value ≡ some l = rw a.1 at q.is in
    let i = entries-back one_name (λ n. vector 1 n) bytes.protocols (λ n. FormedName 1 n) names-in-turn name-takes one_name-back (length p.value) p.value l inner (le_refl (length p.value)) found in
    (rw i.0 w.0, λ few. record { some = a.0; few = few; each = i.1; fits = subst (λ (x : List ℕ). Fits 2 x) (sym i.0) w.1 })

shares-back : (bs : List ℕ) (l : List Share) → Bytes bs → key_shares bs ≡ some l → (vector 2 (encode_shares l) ≡ bs) × (length l ≤ 64 → FormedShares l)
unfolding key_shares all_entries
shares-back bs l b e =
    let p = bind-some (whole 2 bs) (λ x. all_entries one_share x) l e in
    let w = whole_back 2 bs p.value b p.is in
    let inner = vector-bytes 2 p.value bs w.0 b in
    let i = entries-back one_share encode_share encode_shares (λ s. FormedShare s) shares-in-turn share-takes one_share-back (length p.value) p.value l inner (le_refl (length p.value)) p.after in
    (rw i.0 w.0, λ few. record { few = few; each = i.1; fits = subst (λ (x : List ℕ). Fits 2 x) (sym i.0) w.1 })

parameters-back : (bs : List ℕ) (l : List Parameter) → Bytes bs → transport_parameters bs ≡ some l → (encode_parameters l ≡ bs) × All FormedParameter l
unfolding transport_parameters all_entries
parameters-back bs l b e =
    entries-back one_parameter encode_parameter encode_parameters (λ p. FormedParameter p) parameters-in-turn parameter-takes one_parameter-back (length bs) bs l b (le_refl (length bs)) e

-- ---- the body

-- the bytes are the body's, which is of this kind; and in its form where the questions of its lists are answered with yes
pub record BodyIn (k : Kind) (bs : List ℕ) (b : Body) : Type 0 where
  pub is : encode_body b ≡ bs
  pub kinds : kind_of b ≡ k
  pub formed : ids_new b ≡ true → within_counts b ≡ true → FormedBody b

pub body_back : (k : Kind) (bs : List ℕ) (b : Body) → Bytes bs → body_of k bs ≡ some b → BodyIn k bs b
unfolding body_of encode_body kind_of ids_new within_counts
body_back name bs b h e =
    let m = mapped-some server-name (server_name bs) b e in
    let r = name_back bs m.value h m.is in
    subst (λ (x : Body). BodyIn name bs x) m.made (record { is = r.0; kinds = refl; formed = λ n w. r.1 })
body_back groups bs b h e =
    let m = mapped-some supported-groups (word_list 2 bs) b e in
    let r = words_back 2 bs m.value h m.is in
    subst (λ (x : Body). BodyIn groups bs x) m.made (record { is = r.0; kinds = refl; formed = λ n w. r.1 (leb-true (length m.value) 64 w) })
body_back algorithms bs b h e =
    let m = mapped-some signature-algorithms (word_list 2 bs) b e in
    let r = words_back 2 bs m.value h m.is in
    subst (λ (x : Body). BodyIn algorithms bs x) m.made (record { is = r.0; kinds = refl; formed = λ n w. r.1 (leb-true (length m.value) 64 w) })
body_back protocols bs b h e =
    let m = mapped-some application-protocols (protocol_names bs) b e in
    let r = names-back bs m.value h m.is in
    subst (λ (x : Body). BodyIn protocols bs x) m.made (record { is = r.0; kinds = refl; formed = λ n w. r.1 (leb-true (length m.value) 16 w) })
body_back versions bs b h e =
    let m = mapped-some supported-versions (word_list 1 bs) b e in
    let r = words_back 1 bs m.value h m.is in
    subst (λ (x : Body). BodyIn versions bs x) m.made (record { is = r.0; kinds = refl; formed = λ n w. r.1 (leb-true (length m.value) 64 w) })
body_back shares bs b h e =
    let m = mapped-some key-shares (key_shares bs) b e in
    let r = shares-back bs m.value h m.is in
    subst (λ (x : Body). BodyIn shares bs x) m.made (record { is = r.0; kinds = refl; formed = λ n w. r.1 (leb-true (length m.value) 64 w) })
body_back parameters bs b h e =
    let m = mapped-some transport-parameters (transport_parameters bs) b e in
    let r = parameters-back bs m.value h m.is in
    subst (λ (x : Body). BodyIn parameters bs x) m.made
    (record { is = r.0; kinds = refl; formed = λ n w. record { few = leb-true (length m.value) 64 w; each = r.1; once = n } })
body_back other bs b h e = subst (λ (x : Body). BodyIn other bs x) (same_some (unread bs) b e) (record { is = refl; kinds = refl; formed = λ n w. h })

-- It must be known that they are bytes: a varint that begins with 256 has class 4, which has no width, so reading it takes no byte.
pub encoded-length : (k : Kind) (bs : List ℕ) (b : Body) → Bytes bs → body_of k bs ≡ some b → length (encode_body b) ≡ length bs
encoded-length k bs b h e = ap length (body_back k bs b h e).is
