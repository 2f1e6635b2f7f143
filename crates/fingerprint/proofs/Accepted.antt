-- A number of 0 says that the bytes are a well-formed hello's, whose report is handed out; all else has a number from 16 to 23. Assumes nothing.
use Prim.Native.Nat.{ℕ, zero, suc, ◌≤◌}
use mathlib.Core.Path.{◌≡◌, refl, ap}
use mathlib.Core.Bool.{Bool, true, false, not, ◌&&◌}
use mathlib.Core.List.{List, [], ◌∷◌, ◌++◌, map}
use mathlib.Core.Option.{Option, none, some}
use native.Mathlib.Omega.{arith}
use lib.ListN.{length, drop, get_or}
use lib.Dec.{eqb, leb, ltb, lit≤}
use Rattle.wire.specs.Answer.{Answer, result, refused, ask, and_then}
use Rattle.wire.specs.Numbers.{Bytes}
use Rattle.wire.specs.Sums.{member}
use Rattle.fingerprint_bodies.specs.Entries.{whole}
use Rattle.fingerprint_bodies.specs.Body.{kind}
use Rattle.fingerprint_bodies.specs.Forms.{body_of, ids_new, within_counts}
use Rattle.fingerprint.specs.ClientHello.{Extension, ClientHello, type_of}
use Rattle.fingerprint.specs.Reader.{in_form, Raw, one_extension, ask_body, extension, walk, all_extensions, Fields, fields, read_extensions, read_body, read_fields, read}
use Rattle.fingerprint.specs.Report.{report, empty_report, shown, parsed_of, told_report}
use Rattle.fingerprint.proofs.WellFormed.{Encodes, accepted-exactly}

-- ---- the numbers of the reader's refusals

abbrev pub FromReader : ℕ → Type 0
FromReader n = (16 ≤ n) × (n ≤ 23)

abbrev pub Numbered : {A : Type 0} → Answer A → Type 0
Numbered (result a) = Unit {0}
Numbered (refused n) = FromReader n

numbered-ask : {A : Type 0} (b : Bool) (n : ℕ) (next : Answer A) → FromReader n → Numbered next → Numbered (ask b n next)
numbered-ask true n next f g = g
numbered-ask false n next f g = f

module _ {A B : Type 0} where
  numbered-form : (x : Option A) (n : ℕ) (next : A → Answer B) → FromReader n → ((a : A) → Numbered (next a)) → Numbered (in_form x n next)
  numbered-form none n next f g = f
  numbered-form (some a) n next f g = g a

  numbered-then : (x : Answer A) (next : A → Answer B) → Numbered x → ((a : A) → Numbered (next a)) → Numbered (and_then x next)
  numbered-then (result a) next f g = g a
  numbered-then (refused n) next f g = f

ask-numbered : (done : List Extension) (r : Raw) → Numbered (ask_body done r)
unfolding ask_body
ask-numbered done r =
    numbered-ask (not (member r.type (map type_of done))) 21 _ (lit≤ tt, lit≤ tt)
    (numbered-form (body_of (kind r.type) r.bytes) 21 _ (lit≤ tt, lit≤ tt)
    (λ body. numbered-ask (ids_new body) 22 _ (lit≤ tt, lit≤ tt) (numbered-ask (within_counts body && ltb (length done) 64) 23 _ (lit≤ tt, lit≤ tt) tt)))

extension-numbered : (done : List Extension) (bs : List ℕ) → Numbered (extension done bs)
unfolding extension
extension-numbered done bs =
    numbered-form (one_extension bs) 20 _ (lit≤ tt, lit≤ tt) (λ r. numbered-then (ask_body done r.value) _ (ask-numbered done r.value) (λ x. tt))

walk-numbered : (f : ℕ) (done : List Extension) (bs : List ℕ) → Numbered (walk f done bs)
unfolding walk
walk-numbered zero done bs = tt
walk-numbered (suc f) done [] = tt
walk-numbered (suc f) done (b ∷ bs) =
    numbered-then (extension done (b ∷ bs)) _ (extension-numbered done (b ∷ bs)) (λ e. walk-numbered f (done ++ (e.value ∷ [])) e.rest)

fields-numbered : (f : Fields) → Numbered (read_extensions f)
unfolding read_extensions all_extensions
fields-numbered f =
    numbered-ask (leb (length f.cipher_suites) 64) 23 _ (lit≤ tt, lit≤ tt)
    (numbered-then (all_extensions f.block) _ (walk-numbered (length f.block) [] f.block) (λ es. tt))

body-numbered : (bs : List ℕ) → Numbered (read_body bs)
unfolding read_body
body-numbered bs =
    numbered-form (whole 3 bs) 18 _ (lit≤ tt, lit≤ tt) (λ body. numbered-form (fields body) 19 result (lit≤ tt, lit≤ tt) (λ f. tt))

before-numbered : (h : List ℕ) → Numbered (read_fields h)
unfolding read_fields
before-numbered h =
    numbered-ask (leb (length h) 16384) 16 _ (lit≤ tt, lit≤ tt)
    (numbered-ask (leb 1 (length h) && eqb (get_or h 0 0) 1) 17 _ (lit≤ tt, lit≤ tt) (body-numbered (drop 1 h)))

pub read-numbered : (h : List ℕ) → Numbered (read h)
unfolding read
read-numbered h = numbered-then (read_fields h) read_extensions (before-numbered h) fields-numbered

-- ---- what is handed out

pub record ReportedExactly (h : List ℕ) : Type 0 where
  -- a well-formed hello: 0, and its report
  pub accepted : (v : ClientHello) → Encodes v h → told_report (read h) ≡ record { number = 0; values = shown (report v) }
  -- 0 is said of well-formed hellos only
  pub only : (told_report (read h)).number ≡ 0 → (v : ClientHello) × Encodes v h
  -- all else is refused
  pub refusal : ((v : ClientHello) → Encodes v h → ⊥) → (n : ℕ) × FromReader n × (told_report (read h) ≡ record { number = n; values = shown empty_report })

only_zero : (a : Answer ClientHello) → Numbered a → (told_report a).number ≡ 0 → (v : ClientHello) × (a ≡ result v)
unfolding parsed_of
only_zero (result v) f e = (v, refl)
only_zero (refused n) f e = absurd (omega (arith, e, f.0))

refusal-empty : (a : Answer ClientHello) → Numbered a → ((v : ClientHello) → a ≡ result v → ⊥)
    → (n : ℕ) × FromReader n × (told_report a ≡ record { number = n; values = shown empty_report })
unfolding parsed_of
refusal-empty (result v) f g = absurd (g v refl)
refusal-empty (refused n) f g = (n, f, refl)

pub reported-exactly : (h : List ℕ) → Bytes h → ReportedExactly h
unfolding parsed_of
reported-exactly h b =
    record {
      accepted = λ v w. ap told_report ((accepted-exactly h b v).1 w);
      only = λ e. let r = only_zero (read h) (read-numbered h) e in (r.0, (accepted-exactly h b r.0).0 r.1);
      refusal = λ g. refusal-empty (read h) (read-numbered h) (λ v e. g v ((accepted-exactly h b v).0 e));
    }
