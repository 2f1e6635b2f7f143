-- What the extensions of a type hold: one more at the end, and none of the type. Assumes nothing.
use Prim.Native.Nat.{ℕ, ◌+◌, ◌≤◌}
use mathlib.Core.Path.{◌≡◌, refl, sym, ◌∙◌}
use mathlib.Core.Bool.{Bool, true, false, cond, ◌||◌, true≢false}
use mathlib.Core.List.{List, [], ◌∷◌, ◌++◌, map, append_assoc, append-nil}
use mathlib.Core.Option.{Option, none, some}
use native.Mathlib.Omega.{arith}
use borrow.Author.Tests.{eq-eqb}
use lib.ListN.{length, length-append}
use lib.Dec.{eqb}
use Rattle.wire.specs.Sums.{any, member}
use Rattle.wire.specs.Vectors as bytes
use Rattle.wire.proofs.NumberLaws.{length_digits}
use Rattle.wire.proofs.VectorLaws.{length-vector}
use Rattle.wire.specs.Numbers.{digits}
use Rattle.wire.specs.Vectors.{vector}
use Rattle.fingerprint_bodies.specs.Entries.{mapped}
use Rattle.fingerprint_bodies.specs.Body.{Body, encode_body}
use Rattle.fingerprint.specs.ClientHello.{Extension, type_of, encode_extension, encode_extensions}
use Rattle.fingerprint.specs.Report.{gathered}

-- ---- the bytes of extensions

length-extension : (e : Extension) → length (encode_extension e) ≡ 4 + length (encode_body e.body)
unfolding encode_extension bytes.extension
length-extension e =
    omega (
      arith,
      length-append (digits 256 2 e.type) (vector 2 (encode_body e.body)),
      length_digits 256 2 e.type,
      length-vector 2 (encode_body e.body),
    )

pub length-snoc : (es : List Extension) (e : Extension) → length (encode_extensions (es ++ (e ∷ []))) ≡ length (encode_extensions es) + 4 + length (encode_body e.body)
unfolding encode_extensions
length-snoc [] e = omega (arith, length-append (encode_extension e) [], length-extension e)
length-snoc (x ∷ es) e =
    omega (
      arith,
      length-append (encode_extension x) (encode_extensions (es ++ (e ∷ []))),
      length-append (encode_extension x) (encode_extensions es),
      length-snoc es e,
    )

-- an extension has a byte or more
pub count-below : (es : List Extension) → length es ≤ length (encode_extensions es)
unfolding encode_extensions
count-below [] = omega arith
count-below (e ∷ es) = omega (arith, length-append (encode_extension e) (encode_extensions es), length-extension e, count-below es)

-- ---- gathered

module _ {A : Type 0} (f : ℕ → Body → List A) (t : ℕ) where
  gathered_snoc : (es : List Extension) (at : ℕ) (e : Extension)
      → gathered f t at (es ++ (e ∷ []))
      ≡ gathered f t at es ++ cond (eqb t e.type) (f (at + length (encode_extensions es) + 4) e.body) []
  unfolding gathered encode_extensions
  gathered_snoc [] at e =
      let place : at + 0 + 4 ≡ at + 4 = omega arith in
      rw (place, append-nil)
  gathered_snoc (x ∷ es) at e =
      let next : ℕ = at + 4 + length (encode_body x.body) in
      let place : at + length (encode_extension x ++ encode_extensions es) + 4 ≡ next + length (encode_extensions es) + 4 =
      omega (arith, length-append (encode_extension x) (encode_extensions es), length-extension x) in
      rw (gathered_snoc es next e, place, append_assoc)

  pub gathered-other : (es : List Extension) (at : ℕ) (e : Extension) → eqb t e.type ≡ false → gathered f t at (es ++ (e ∷ [])) ≡ gathered f t at es
  gathered-other es at e n = gathered_snoc es at e ∙ rw (n, append-nil)

  pub gathered_none : (es : List Extension) (at : ℕ) → member t (map type_of es) ≡ false → gathered f t at es ≡ []
  unfolding gathered member any
  gathered_none [] at m = refl
  gathered_none (x ∷ es) at m =
      rw (here (eqb t x.type) m) (gathered_none es (at + 4 + length (encode_body x.body)) (later (eqb t x.type) m))
    where
      here : (b : Bool) → b || any (λ y. eqb t y) (map type_of es) ≡ false → b ≡ false
      here true e = e
      here false e = refl

      later : (b : Bool) → b || any (λ y. eqb t y) (map type_of es) ≡ false → any (λ y. eqb t y) (map type_of es) ≡ false
      later true e = absurd (true≢false e)
      later false e = e

  pub gathered-new : (es : List Extension) (at place : ℕ) (e : Extension) → e.type ≡ t → member t (map type_of es) ≡ false
      → place ≡ at + length (encode_extensions es) + 4 → gathered f t at (es ++ (e ∷ [])) ≡ f place e.body
  gathered-new es at place e q m p = gathered_snoc es at e ∙ rw (gathered_none es at m, eq-eqb t e.type (sym q), ← p)

-- ---- what a body that was read holds

module _ {A B : Type 0} (make : A → Body) (f : ℕ → Body → List B) (at : ℕ) (value : Option A → List B) (h : (a : A) → f at (make a) ≡ value (some a)) where
  pub held : (x : Option A) (b : Body) → mapped make x ≡ some b → f at b ≡ value x
  unfolding mapped
  held none b e = absurd (let z : ◌≡◌ {A = ℕ} 0 1 = cc in omega arith)
  held (some a) b e = let q : b ≡ make a = cc in rw q (h a)
