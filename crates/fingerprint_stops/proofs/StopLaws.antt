-- The number of a stop is the reader's, and there is a stop exactly where the reader refuses; its place lies in the hello, or at its end.
-- Assumes nothing.
use Prim.Native.Nat.{ℕ, zero, suc, ◌+◌, ◌-◌, ◌*◌, ◌≤◌}
use mathlib.Core.Path.{◌≡◌, refl, ap, ◌∙◌}
use mathlib.Core.Bool.{Bool, true, false, cond, ◌&&◌}
use mathlib.Core.List.{List, [], ◌∷◌, ◌++◌, map}
use mathlib.Core.Option.{Option, none, some}
use native.Mathlib.Omega.{arith}
use lib.ListN.{length, drop, get_or, length-drop}
use lib.Dec.{eqb, leb}
use borrow.Author.Tests.{leb-true, leb-false}
use Rattle.wire.specs.Answer.{Answer, result, refused, ask, and_then}
use Rattle.wire.specs.Sums.{member}
use Rattle.wire.proofs.AnswerLaws.{same-result, and_then-result}
use Rattle.wire.proofs.SumLaws.{and_left}
use Rattle.wire.specs.Stops.{Stopped, stopped, Numbered, StopWithin}
use Rattle.fingerprint_bodies.specs.Entries.{Entry, entry, bind, taken, vector_at, whole, at_least, at_most}
use Rattle.fingerprint_bodies.specs.Body.{kind}
use Rattle.fingerprint_bodies.specs.Forms.{even_words}
use Rattle.fingerprint_bodies.proofs.BindLaws.{bind-some}
use Rattle.fingerprint.specs.ClientHello.{Extension, type_of}
use Rattle.fingerprint.specs.Reader.{in_form, with_extensions, Raw, one_extension, ask_body, extension, walk, all_extensions, Fields, fields, read_body, read_fields, read_extensions, read}
use Rattle.fingerprint.proofs.WalkTrips.{in_form-result}
use Rattle.fingerprint_stops.specs.Stops.{or_at, compression_stop, suites_stop, session_stop, field_stop, head_place, extension_place, stop_or, walk_stops, extensions_stop, stops_of, stopped_at}
use Rattle.fingerprint_stops.proofs.LengthLaws.{taken-length, vector-length, whole_length, extension-length, fields-length}
use Rattle.fingerprint_stops.proofs.PlaceLaws.{unless-within, body-within}

-- the walk after one more extension
abbrev after : ℕ → ℕ → List Extension → List ℕ → Entry Extension → Option Stopped
after f at done bs e = walk_stops f (at + (length bs - length e.rest)) (done ++ (e.value ∷ [])) e.rest

-- ---- the number

abbrev made : {B : Type 0} → (List Extension → B) → Answer (List Extension) → Answer B
made make a = and_then a (λ es. result (make es))

walk-numbered : {B : Type 0} (make : List Extension → B) (f at : ℕ) (done : List Extension) (bs : List ℕ)
    → Numbered (walk_stops f at done bs) (made make (walk f done bs))
unfolding walk_stops walk
walk-numbered make zero at done bs = tt
walk-numbered make (suc f) at done [] = tt
walk-numbered make (suc f) at done (b ∷ bs) =
    go (extension_place (map type_of done) (one_extension (b ∷ bs))) (extension done (b ∷ bs))
    (λ e. walk-numbered make f (at + (length (b ∷ bs) - length e.rest)) (done ++ (e.value ∷ [])) e.rest)
  where
    go : (place : ℕ) (a : Answer (Entry Extension))
        → ((e : Entry Extension) → Numbered (after f at done (b ∷ bs) e) (made make (walk f (done ++ (e.value ∷ [])) e.rest)))
        → Numbered (stop_or at place a (after f at done (b ∷ bs))) (made make (and_then a (λ e. walk f (done ++ (e.value ∷ [])) e.rest)))
    go place (refused n) h = refl
    go place (result e) h = h e

-- what the count of the suites decides
abbrev counted : List ℕ → Fields → Bool → Option Stopped
counted h f b =
    cond b (walk_stops (length f.block) (length h - length f.block) [] f.block) (some (stopped 23 (41 + length f.session_id + 128)))

extensions-numbered : (h : List ℕ) (f : Fields) → Numbered (extensions_stop h f) (read_extensions f)
unfolding extensions_stop read_extensions all_extensions
extensions-numbered h f = go (leb (length f.cipher_suites) 64)
  where
    go : (b : Bool) → Numbered (counted h f b) (ask b 23 (and_then (walk (length f.block) [] f.block) (λ es. result (with_extensions f es))))
    go true = walk-numbered (with_extensions f) (length f.block) (length h - length f.block) [] f.block
    go false = refl

pub stopped-numbered : (h : List ℕ) → Numbered (stopped_at h) (read h)
unfolding stopped_at read
stopped-numbered h = go (read_fields h)
  where
    go : (a : Answer Fields) → Numbered (stops_of h a) (and_then a read_extensions)
    go (refused n) = refl
    go (result f) = extensions-numbered h f

-- ---- the place of a field

or-within : {A : Type 0} (place : ℕ) (x : Option A) (next : A → ℕ) (n : ℕ) → place ≤ n → ((a : A) → x ≡ some a → next a ≤ n) → or_at place x next ≤ n
or-within place none next n p h = p
or-within place (some a) next n p h = h a refl

-- a piece that passed a test is the piece
kept : {A B : Type 0} (x : Option A) (test : A → Option B) (a : A) → bind x (λ c. bind (test c) (λ _. some c)) ≡ some a → x ≡ some a
kept x test a e =
    let p = bind-some x (λ c. bind (test c) (λ _. some c)) a e in
    let q = bind-some (test p.value) (λ _. some p.value) a p.after in
    p.is ∙ q.after

-- a vector with a test of its own, and what follows it
vector-within : {B : Type 0} (width at : ℕ) (bs : List ℕ) (test : Entry (List ℕ) → Option B) (next : Entry (List ℕ) → ℕ)
    → ((v : Entry (List ℕ)) → next v ≤ at + width + length v.value + length v.rest)
    → or_at at (bind (vector_at width bs) (λ v. bind (test v) (λ _. some v))) next ≤ at + length bs
vector-within width at bs test next h =
    or-within at (bind (vector_at width bs) (λ v. bind (test v) (λ _. some v))) next (at + length bs) (omega arith)
    (λ v e. omega (arith, h v, vector-length width bs v (kept (vector_at width bs) test v e)))

compression-within : (at : ℕ) (bs : List ℕ) → compression_stop at bs ≤ at + length bs
unfolding compression_stop
compression-within at bs = vector-within 1 at bs (λ c. at_least 1 c.value) (λ c. at + 1 + length c.value) (λ c. omega arith)

suites-within : (at : ℕ) (bs : List ℕ) → suites_stop at bs ≤ at + length bs
unfolding suites_stop
suites-within at bs =
    vector-within 2 at bs (λ s. even_words s.value) (λ s. compression_stop (at + 2 + length s.value) s.rest)
    (λ s. compression-within (at + 2 + length s.value) s.rest)

session-within : (at : ℕ) (bs : List ℕ) → session_stop at bs ≤ at + length bs
unfolding session_stop
session-within at bs =
    vector-within 1 at bs (λ i. at_most 32 i.value) (λ i. suites_stop (at + 1 + length i.value) i.rest)
    (λ i. suites-within (at + 1 + length i.value) i.rest)

field-within : (bs : List ℕ) → field_stop bs ≤ 4 + length bs
unfolding field_stop
field-within bs =
    or-within 4 (taken 2 bs) _ (4 + length bs) (omega arith)
    (λ v e.
    let version = (taken-length 2 bs v e).0 in
    or-within 6 (taken 32 v.rest) _ (4 + length bs) (omega (arith, version))
    (λ r q. omega (arith, version, (taken-length 32 v.rest r q).0, session-within 38 r.rest)))

-- ---- the place of an extension

pub extension-within : (known bs : List ℕ) → extension_place known (one_extension bs) ≤ length bs
extension-within known bs = go (one_extension bs) refl
  where
    go : (x : Option (Entry Raw)) → one_extension bs ≡ x → extension_place known x ≤ length bs
    go none e = omega arith
    go (some r) e =
        unless-within (member r.value.type known) _ (length bs)
        (omega (arith, body-within (kind r.value.type) r.value.bytes, extension-length bs r e))

-- what is left after an extension
extension-rest : (done : List Extension) (bs : List ℕ) (e : Entry Extension) → extension done bs ≡ result e → length e.rest ≤ length bs
unfolding extension
extension-rest done bs e q =
    let p = in_form-result (one_extension bs) 20 (λ r. and_then (ask_body done r.value) (λ x. result (entry x r.rest))) e q in
    let a = and_then-result (ask_body done p.value.value) (λ x. result (entry x p.value.rest)) e p.after in
    let z : p.value.rest ≡ e.rest = ap (λ (y : Entry Extension). y.rest) (same-result (entry a.value p.value.rest) e a.after) in
    omega (arith, extension-length bs p.value p.is, ap length z)

walk-within : (n f at : ℕ) (done : List Extension) (bs : List ℕ) → at + length bs ≤ n → StopWithin n (walk_stops f at done bs)
unfolding walk_stops
walk-within n zero at done bs h = tt
walk-within n (suc f) at done [] h = tt
walk-within n (suc f) at done (b ∷ bs) h =
    go (extension done (b ∷ bs)) refl (λ e q. walk-within n f (at + (length (b ∷ bs) - length e.rest)) (done ++ (e.value ∷ [])) e.rest q)
  where
    go : (a : Answer (Entry Extension)) → extension done (b ∷ bs) ≡ a
        → ((e : Entry Extension) → at + (length (b ∷ bs) - length e.rest) + length e.rest ≤ n → StopWithin n (after f at done (b ∷ bs) e))
        → StopWithin n (stop_or at (extension_place (map type_of done) (one_extension (b ∷ bs))) a (after f at done (b ∷ bs)))
    go (refused k) e next = omega (arith, h, extension-within (map type_of done) (b ∷ bs))
    go (result x) e next = next x (omega (arith, h, extension-rest done (b ∷ bs) x e))

-- ---- the whole hello

module _ (h : List ℕ) where
  extensions-within : (f : Fields)
      → length h ≡ 44 + length f.session_id + 2 * length f.cipher_suites + length f.compression + length f.block
      → StopWithin (length h) (extensions_stop h f)
  unfolding extensions_stop
  extensions-within f long = go (leb (length f.cipher_suites) 64) refl
    where
      go : (b : Bool) → leb (length f.cipher_suites) 64 ≡ b → StopWithin (length h) (counted h f b)
      go true e = walk-within (length h) (length f.block) (length h - length f.block) [] f.block (omega (arith, long))
      go false e = omega (arith, long, leb-false (length f.cipher_suites) 64 e)

  body-stop : 1 ≤ length h → StopWithin (length h) (stops_of h (read_body (drop 1 h)))
  unfolding read_body head_place
  body-stop there = go (whole 3 (drop 1 h)) refl
    where
      inner : (body : List ℕ) → whole 3 (drop 1 h) ≡ some body → (x : Option Fields) → fields body ≡ x
          → StopWithin (length h) (stops_of h (in_form x 19 result))
      inner body e none q =
          omega (arith, field-within (drop 4 h), length-drop 4 h, length-drop 1 h, whole_length 3 (drop 1 h) body e)
      inner body e (some f) q = extensions-within f (omega (arith, fields-length body f q, whole_length 3 (drop 1 h) body e, length-drop 1 h))

      go : (x : Option (List ℕ)) → whole 3 (drop 1 h) ≡ x → StopWithin (length h) (stops_of h (in_form x 18 (λ body. in_form (fields body) 19 result)))
      go none e = there
      go (some body) e = inner body e (fields body) refl

  pub stopped-within : StopWithin (length h) (stopped_at h)
  unfolding stopped_at read_fields head_place
  stopped-within = go (leb (length h) 16384) refl (leb 1 (length h) && eqb (get_or h 0 0) 1) refl
    where
      go : (a : Bool) → leb (length h) 16384 ≡ a → (b : Bool) → leb 1 (length h) && eqb (get_or h 0 0) 1 ≡ b
          → StopWithin (length h) (stops_of h (ask a 16 (ask b 17 (read_body (drop 1 h)))))
      go false e b q = omega (arith, leb-false (length h) 16384 e)
      go true e false q = omega arith
      go true e true q = body-stop (leb-true 1 (length h) (and_left (leb 1 (length h)) (eqb (get_or h 0 0) 1) q))
