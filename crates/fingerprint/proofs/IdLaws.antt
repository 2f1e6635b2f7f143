-- The parameter ids of the extensions: none at first, and those of one more extension, which is the first of its type. Assumes nothing.
use Prim.Native.Nat.{ℕ, zero, suc, ◌+◌, ◌-◌, ◌≤◌}
use mathlib.Core.Path.{◌≡◌, refl, sym, ap, ◌∙◌, subst}
use mathlib.Core.Bool.{Bool, true, false, true≢false}
use mathlib.Core.List.{List, [], ◌∷◌, ◌++◌, map}
use mathlib.Core.Option.{Option, some}
use native.Mathlib.Omega.{arith}
use borrow.Author.Tests.{eqb-true, eq-eqb}
use lib.ListN.{length, drop, replicate, length-append}
use lib.Dec.{eqb}
use Rattle.wire.specs.Front.{front}
use Rattle.wire.specs.Sums.{member}
use Rattle.wire.proofs.FrontLaws.{front-none}
use Rattle.fingerprint_bodies.specs.Entries.{or_empty}
use Rattle.fingerprint_bodies.specs.Body.{transport-parameters, Parameter, Kind, name, groups, algorithms, protocols, versions, shares, parameters, other, kind}
use Rattle.fingerprint_bodies.specs.Forms.{transport_parameters, id_of, body_of}
use Rattle.fingerprint_bodies.specs.Code.{asked}
use Rattle.fingerprint_parameters.specs.Code.{ids_in, AskedIds}
use Rattle.std.specs.Prelude.{Result, Ok, Err}
use Rattle.wire.specs.Refusals.{question}
use Rattle.wire.specs.declared.refusals.Refusal.{Refusal}
use Rattle.fingerprint_lists.specs.Arrays.{padded}
use Rattle.fingerprint_lists.proofs.FillLaws.{padded-none}
use Rattle.fingerprint.specs.ClientHello.{Extension, type_of, encode_extensions}
use Rattle.fingerprint.specs.Report.{numbers_in, gathered}
use Rattle.fingerprint.specs.Code.{slot, ids_held, Gained, BodyAsked, IdsFound}
use Rattle.fingerprint.proofs.KindLaws.{kind-same}
use Rattle.fingerprint.proofs.GatherLaws.{gathered-other, gathered_none, gathered-new, held}

pub ids-none : (block : ℕ) → IdsFound block [] 0 (replicate 64 0)
unfolding gathered
ids-none block = record { are = sym (padded-none 64 0); count-is = refl }

-- ---- an array of zeros after a write

drop-zeros : (n m : ℕ) → drop {A = ℕ} n (replicate m 0) ≡ replicate (m - n) 0
drop-zeros zero m = let e : m - 0 ≡ m = omega arith in rw e
drop-zeros (suc n) zero = let e : 0 - suc n ≡ 0 = omega arith in rw e
drop-zeros (suc n) (suc m) = let e : suc m - suc n ≡ m - n = omega arith in rw e (drop-zeros n m)

written : (l : List ℕ) → front l (padded 64 0 []) ≡ padded 64 0 l
unfolding front padded
written l = ap (λ (r : List ℕ). l ++ r) (drop-zeros (length l) 64)

-- ---- the answer to the questions of a body

-- a kind of body that holds no ids is asked by its own reader, and then none are gained
pub body-without : (k : Kind) (bs ids : List ℕ) → ids_held k bs ≡ [] → length ids ≡ 64 → asked k bs ≡ 0 → BodyAsked k bs (Ok 0) ids ids
body-without k bs ids none l q =
    record {
      is = sym q;
      gained = record { count-is = sym (ap length none); output = rw none (front-none ids); size = l };
    }

pub body-refused : (k : Kind) (bs old new : List ℕ) (e : Refusal) → question e ≡ asked k bs → BodyAsked k bs (Err e) old new
body-refused k bs old new e q = record { is = q; gained = tt }

pub body-parameters : (bs : List ℕ) (r : Result ℕ Refusal) (old new : List ℕ) → AskedIds bs r old new → BodyAsked parameters bs r old new
body-parameters bs (Ok n) old new a = record { is = a.is; gained = record { count-is = a.count; output = a.output; size = a.size } }
body-parameters bs (Err e) old new a = record { is = a.is; gained = tt }

-- ---- how many there may be

pub few-gained : {k : Kind} {bs : List ℕ} {n : ℕ} {old new : List ℕ} → Gained k bs n old new → n ≤ 64
unfolding front
few-gained {k} {bs} {n} {old} {new} g =
    let l : List ℕ = ids_held k bs in
    omega (arith, g.count-is, g.size, ap length g.output, length-append l (drop (length l) old))

pub few-found : {block : ℕ} {es : List Extension} {n : ℕ} {ids : List ℕ} → IdsFound block es n ids → length ids ≡ 64 → n ≤ 64
unfolding padded
few-found {block} {es} {n} {ids} f s =
    let l : List ℕ = gathered numbers_in 0x0039 block es in
    omega (arith, f.count-is, s, ap length f.are, length-append l (replicate (64 - length l) 0))

-- ---- one more extension

none-held : (k : Kind) (bs : List ℕ) → (k ≡ parameters → ⊥) → ids_held k bs ≡ []
none-held name bs n = refl
none-held groups bs n = refl
none-held algorithms bs n = refl
none-held protocols bs n = refl
none-held versions bs n = refl
none-held shares bs n = refl
none-held parameters bs n = absurd (n refl)
none-held other bs n = refl

module _ (block place : ℕ) (es : List Extension) (e : Extension) (bs : List ℕ) (n m : ℕ) (old new : List ℕ) (f : IdsFound block es n old) (g : Gained (kind e.type) bs m old new) where
  pub ids_next : member e.type (map type_of es) ≡ false → place ≡ block + length (encode_extensions es) + 4 → body_of (kind e.type) bs ≡ some e.body
      → IdsFound block (es ++ (e ∷ [])) (n + m) new
  unfolding body_of numbers_in or_empty kind
  ids_next new-type p b = go (eqb 0x0039 e.type) refl
    where
      go : (t : Bool) → eqb 0x0039 e.type ≡ t → IdsFound block (es ++ (e ∷ [])) (n + m) new
      go true q =
          let is : e.type ≡ 0x0039 = sym (eqb-true 0x0039 e.type q) in
          let first : member 0x0039 (map type_of es) ≡ false = subst (λ (t : ℕ). member t (map type_of es) ≡ false) is new-type in
          let k : kind e.type ≡ parameters = ap kind is in
          let none : gathered numbers_in 0x0039 block es ≡ [] = gathered_none numbers_in 0x0039 es block first in
          let all : gathered numbers_in 0x0039 block (es ++ (e ∷ [])) ≡ ids_in bs =
          gathered-new numbers_in 0x0039 es block place e is first p
          ∙ held transport-parameters numbers_in place (λ (x : Option (List Parameter)). map id_of (or_empty x)) (λ l. refl) (transport_parameters bs) e.body
          (subst (λ (y : Kind). body_of y bs ≡ some e.body) k b) in
          let ids : ids_held (kind e.type) bs ≡ ids_in bs = ap (λ (y : Kind). ids_held y bs) k in
          record {
            are = g.output ∙ rw (ids, f.are, none, all) (written (ids_in bs));
            count-is = rw all (omega (arith, f.count-is, ap length none, g.count-is, ap length ids));
          }
      go false q =
          let differs : kind e.type ≡ parameters → ⊥ =
          λ k. true≢false (sym (eq-eqb 0x0039 e.type (sym (kind-same e.type 0x0039 k (λ o. omega (arith, ap slot o))))) ∙ q) in
          let none = none-held (kind e.type) bs differs in
          let same = gathered-other numbers_in 0x0039 es block e q in
          record {
            are = g.output ∙ rw (none, same) (sym (front-none old) ∙ f.are);
            count-is = rw same (omega (arith, f.count-is, g.count-is, ap length none));
          }
