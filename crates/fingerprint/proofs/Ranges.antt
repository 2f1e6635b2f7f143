-- Every name in the report of an accepted hello lies in the hello where its range says. Assumes nothing.
use Prim.Native.Nat.{ℕ, ◌+◌}
use mathlib.Core.Path.{◌≡◌, refl, ap, ◌∙◌, subst}
use mathlib.Core.Bool.{Bool, true, false, cond}
use mathlib.Core.List.{List, [], ◌∷◌, ◌++◌, append_assoc, append-nil}
use mathlib.Core.Option.{some}
use native.Mathlib.Omega.{arith}
use lib.ListN.{length, length-append}
use lib.Dec.{eqb}
use lib.Seq.{take_at, drop_at}
use Rattle.wire.specs.Answer.{result}
use Rattle.wire.specs.Numbers.{Bytes, digits}
use Rattle.wire.specs.Vectors as bytes
use Rattle.wire.specs.Vectors.{vector, words}
use Rattle.wire.proofs.NumberLaws.{length_digits}
use Rattle.wire.proofs.VectorLaws.{length-vector, length-words}
use Rattle.fingerprint_bodies.specs.Body.{Body, server-name, supported-groups, signature-algorithms, application-protocols, supported-versions, key-shares, transport-parameters, unread, encode_body}
use Rattle.fingerprint_bodies.specs.Conditions.{All}
use Rattle.fingerprint_bodies.proofs.BindLaws.{none-some, same_some}
use Rattle.fingerprint_lists.specs.Arrays.{Part, placed}
use Rattle.fingerprint.specs.ClientHello.{Extension, ClientHello, encode_extension, encode_extensions, encode_fields, encode, WellFormed}
use Rattle.fingerprint.specs.Reader.{read}
use Rattle.fingerprint.specs.Report.{names_in, gathered, block_place, first_of, report, Lies}
use Rattle.fingerprint.proofs.WellFormed.{encoded-read}

-- ---- bytes that stand at a place

-- so many stand before them
record Stands (h : List ℕ) (at : ℕ) (bs : List ℕ) : Type 0 where
  before : List ℕ
  after : List ℕ
  is : before ++ (bs ++ after) ≡ h
  place : length before ≡ at

abbrev PartStands : List ℕ → Part → Type 0
PartStands h p = Stands h p.start p.bytes

lies : (h : List ℕ) (p : Part) → PartStands h p → Lies h p
lies h p s =
    let l = p.bytes in
    let long : length (s.before ++ (l ++ s.after)) ≡ length h = ap length s.is in
    record {
      inside = omega (arith, long, s.place, length-append s.before (l ++ s.after), length-append l s.after);
      is = rw (← s.is, drop_at s.before (l ++ s.after) p.start s.place) (take_at l s.after (length l) refl);
    }

module _ (h : List ℕ) where
  stands_at : (m n : ℕ) (bs : List ℕ) → m ≡ n → Stands h m bs → Stands h n bs
  stands_at m n bs e s = subst (λ (k : ℕ). Stands h k bs) e s

  stands-first : (at : ℕ) (a b : List ℕ) → Stands h at (a ++ b) → Stands h at a
  stands-first at a b s = record { before = s.before; after = b ++ s.after; is = rw (← append_assoc a b s.after) s.is; place = s.place }

  stands-second : (at n : ℕ) (a b : List ℕ) → length a ≡ n → Stands h at (a ++ b) → Stands h (at + n) b
  stands-second at n a b e s =
      record {
        before = s.before ++ a;
        after = s.after;
        is = rw (append_assoc s.before a (b ++ s.after), ← append_assoc a b s.after) s.is;
        place = omega (arith, length-append s.before a, s.place, e);
      }

  -- the bytes of a vector stand after its count
  stands-vector : (at width : ℕ) (bs : List ℕ) → Stands h at (vector width bs) → Stands h (at + width) bs
  unfolding vector
  stands-vector at width bs s = stands-second at width (digits 256 width (length bs)) bs (length_digits 256 width (length bs)) s

  -- ---- the names of one body

  all_placed : (at : ℕ) (l : List (List ℕ)) → Stands h at (bytes.protocols l) → All (PartStands h) (placed at l)
  unfolding bytes.protocols placed
  all_placed at [] s = tt
  all_placed at (n ∷ ns) s =
      let here = stands-vector at 1 n (stands-first at (vector 1 n) (bytes.protocols ns) s) in
      let next = stands-second at (1 + length n) (vector 1 n) (bytes.protocols ns) (length-vector 1 n) s in
      (here, all_placed (at + 1 + length n) ns (stands_at (at + (1 + length n)) (at + 1 + length n) (bytes.protocols ns) (omega arith) next))

  names_stand : (at : ℕ) (b : Body) → Stands h at (encode_body b) → All (PartStands h) (names_in at b)
  unfolding names_in encode_body
  names_stand at (server-name n) s =
      let list = stands-vector at 2 (0x00 ∷ vector 2 n) s in
      let name = stands-vector (at + 2 + 1) 2 n (stands-second (at + 2) 1 (0x00 ∷ []) (vector 2 n) refl list) in
      (stands_at (at + 2 + 1 + 2) (at + 5) n (omega arith) name, tt)
  names_stand at (supported-groups l) s = tt
  names_stand at (signature-algorithms l) s = tt
  names_stand at (application-protocols l) s = all_placed (at + 2) l (stands-vector at 2 (bytes.protocols l) s)
  names_stand at (supported-versions l) s = tt
  names_stand at (key-shares l) s = tt
  names_stand at (transport-parameters l) s = tt
  names_stand at (unread bs) s = tt

  -- ---- of all extensions

  all_append : (a b : List Part) → All (PartStands h) a → All (PartStands h) b → All (PartStands h) (a ++ b)
  all_append [] b p q = q
  all_append (x ∷ a) b p q = (p.0, all_append a b p.1 q)

  all-chosen : (b : Bool) (l : List Part) → All (PartStands h) l → All (PartStands h) (cond b l [])
  all-chosen true l p = p
  all-chosen false l p = tt

  all-gathered : (t at : ℕ) (es : List Extension) → Stands h at (encode_extensions es) → All (PartStands h) (gathered names_in t at es)
  unfolding gathered encode_extensions encode_extension bytes.extension
  all-gathered t at [] s = tt
  all-gathered t at (e ∷ es) s =
      let b = encode_body e.body in
      let d = digits 256 2 e.type in
      let one = stands-first at (d ++ vector 2 b) (encode_extensions es) s in
      let body = stands-vector (at + 2) 2 b (stands-second at 2 d (vector 2 b) (length_digits 256 2 e.type) one) in
      let long : length (d ++ vector 2 b) ≡ 4 + length b = omega (arith, length-append d (vector 2 b), length_digits 256 2 e.type, length-vector 2 b) in
      let next = stands-second at (4 + length b) (d ++ vector 2 b) (encode_extensions es) long s in
      all_append (cond (eqb t e.type) (names_in (at + 4) e.body) []) (gathered names_in t (at + 4 + length b) es)
      (all-chosen (eqb t e.type) (names_in (at + 4) e.body) (names_stand (at + 4) e.body (stands_at (at + 2 + 2) (at + 4) b (omega arith) body)))
      (all-gathered t (at + 4 + length b) es (stands_at (at + (4 + length b)) (at + 4 + length b) (encode_extensions es) (omega arith) next))

  all_lie : (l : List Part) → All (PartStands h) l → All (Lies h) l
  all_lie [] s = tt
  all_lie (p ∷ l) s = (lies h p s.0, all_lie l s.1)

  first-lies : (l : List Part) → All (PartStands h) l → (p : Part) → first_of l ≡ some p → Lies h p
  unfolding first_of
  first-lies [] s p e = absurd (none-some e)
  first-lies (x ∷ l) s p e = subst (λ (y : Part). Lies h y) (same_some x p e) (lies h x s.0)

  -- ---- where the extensions stand

  block-stands : (v : ClientHello) → WellFormed v → encode v ≡ h → Stands h (block_place v) (encode_extensions v.extensions)
  unfolding block_place encode encode_fields
  block-stands v w e =
      let b = vector 2 (encode_extensions v.extensions) in
      let c = vector 1 v.compression in
      let s = vector 2 (words v.cipher_suites) in
      let i = vector 1 v.session_id in
      let all : Stands h 0 (0x01 ∷ vector 3 (encode_fields v)) = record { before = []; after = []; is = append-nil (encode v) ∙ e; place = refl } in
      let version-on = stands-vector 1 3 (encode_fields v) (stands-second 0 1 (0x01 ∷ []) (vector 3 (encode_fields v)) refl all) in
      let random-on = stands-second 4 2 v.version (v.random ++ (i ++ (s ++ (c ++ b)))) w.version version-on in
      let session-on = stands-second 6 32 v.random (i ++ (s ++ (c ++ b))) w.random random-on in
      let suites-on = stands-second 38 (length i) i (s ++ (c ++ b)) refl session-on in
      let compression-on = stands-second (38 + length i) (length s) s (c ++ b) refl suites-on in
      let block_on = stands-second (38 + length i + length s) (length c) c b refl compression-on in
      let here = stands-vector (38 + length i + length s + length c) 2 (encode_extensions v.extensions) block_on in
      stands_at (38 + length i + length s + length c + 2) (block_place v) (encode_extensions v.extensions)
      (omega (arith, length-vector 1 v.session_id, length-vector 2 (words v.cipher_suites), length-words v.cipher_suites, length-vector 1 v.compression))
      here

-- ---- the report

pub record NamesLie (h : List ℕ) (v : ClientHello) : Type 0 where
  pub alpn : All (Lies h) (report v).alpn
  pub sni : (p : Part) → (report v).sni ≡ some p → Lies h p

pub names-formed : (h : List ℕ) (v : ClientHello) → WellFormed v → encode v ≡ h → NamesLie h v
unfolding report
names-formed h v w e =
    let s = block-stands h v w e in
    record {
      alpn = all_lie h (gathered names_in 0x0010 (block_place v) v.extensions) (all-gathered h 0x0010 (block_place v) v.extensions s);
      sni = first-lies h (gathered names_in 0x0000 (block_place v) v.extensions) (all-gathered h 0x0000 (block_place v) v.extensions s);
    }

pub names-lie : (h : List ℕ) → Bytes h → (v : ClientHello) → read h ≡ result v → NamesLie h v
names-lie h b v e = let r = encoded-read h b v e in names-formed h v r.1 r.0
