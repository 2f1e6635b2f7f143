-- What `ask_parameters` answers, by what it has read and tested. Assumes nothing.
use Prim.Native.Nat.{ℕ, ◌≤◌, ◌<◌}
use mathlib.Core.Path.{◌≡◌, refl, sym, ap, ◌∙◌}
use mathlib.Core.Bool.{true, false, cond}
use mathlib.Core.List.{List, map}
use mathlib.Core.Option.{Option, none, some}
use native.Mathlib.Omega.{arith}
use lib.ListN.{length, take, length-map}
use lib.Dec.{leb}
use borrow.Author.Tests.{le-leb, lt-leb}
use Rattle.wire.specs.Front.{front}
use Rattle.wire.specs.Sums.{distinct}
use Rattle.wire.proofs.FrontLaws.{take-front}
use Rattle.fingerprint_bodies.specs.Entries.{mapped, or_empty}
use Rattle.fingerprint_bodies.specs.Body.{Parameter, parameters}
use Rattle.fingerprint_bodies.specs.Forms.{transport_parameters, id_of}
use Rattle.fingerprint_bodies.specs.Code.{asked}
use Rattle.fingerprint_bodies.proofs.EntryLaws.{There, Counts}
use Rattle.fingerprint_bodies.proofs.AskLaws.{ids_asked, asked-parameters}
use Rattle.fingerprint_parameters.specs.Code.{ids_of, ids_in, count_of, Kept, AskedIds}
use Rattle.std.specs.Prelude.{Some, None, Ok, Err}
use Rattle.wire.specs.Refusals.{question}
use Rattle.wire.specs.declared.refusals.Refusal.{Refusal}
use Rattle.wire.specs.declared.refusals.Refusal.TheVariants as no

-- ---- what a count says of the list

cut : (x : Option (List Parameter)) → None ≡ count_of (mapped (λ l. map id_of l) x) → ids_asked x ≡ 21
unfolding mapped
cut none e = refl
cut (some l) e = absurd (let z : ◌≡◌ {A = ℕ} 0 1 = cc in omega arith)

counted : (x : Option (List Parameter)) (k : ℕ) → Some k ≡ count_of (mapped (λ l. map id_of l) x) → Counts x k
unfolding mapped or_empty
counted none k e = absurd (let z : ◌≡◌ {A = ℕ} 0 1 = cc in omega arith)
counted (some l) k e = let q : k ≡ length (map id_of l) = cc in record { there = refl; long = sym (q ∙ length-map l id_of) }

ids-there : (x : Option (List Parameter)) → There x → mapped (λ l. map id_of l) x ≡ some (map id_of (or_empty x))
unfolding mapped or_empty
ids-there none t = absurd (let z : ◌≡◌ {A = ℕ} 0 1 = cc in omega arith)
ids-there (some l) t = refl

there-asked : (x : Option (List Parameter)) → There x → ids_asked x ≡ cond (distinct (map id_of (or_empty x))) (cond (leb (length (or_empty x)) 64) 0 23) 22
unfolding or_empty
there-asked none t = absurd (let z : ◌≡◌ {A = ℕ} 0 1 = cc in omega arith)
there-asked (some l) t = refl

-- ---- the answers

-- a refusal says nothing of the array, but that it is as long
refuses : (bs old new : List ℕ) (e : Refusal) → question e ≡ asked parameters bs → length new ≡ 64 → AskedIds bs (Err e) old new
refuses bs old new e q l = record { is = q; count = tt; output = tt; size = l }

pub asked-cut : (bs old new : List ℕ) → length old ≡ 64 → Kept (ids_of bs) None old new → AskedIds bs (Err no.ExtensionMalformed) old new
unfolding ids_of
asked-cut bs old new o h =
    refuses bs old new no.ExtensionMalformed (sym (asked-parameters bs ∙ cut (transport_parameters bs) h.is)) (h.size ∙ o)

module _ (bs old new : List ℕ) (k : ℕ) (h : Kept (ids_of bs) (Some k) old new) where
  all : Counts (transport_parameters bs) k
  unfolding ids_of
  all = counted (transport_parameters bs) k h.is

  pub all_there : There (transport_parameters bs)
  all_there = all.there

  ids-long : length (ids_in bs) ≡ k
  ids-long = length-map (or_empty (transport_parameters bs)) id_of ∙ all.long

  asked_is : asked parameters bs ≡ cond (distinct (ids_in bs)) (cond (leb k 64) 0 23) 22
  asked_is =
      asked-parameters bs
      ∙ there-asked (transport_parameters bs) all_there
      ∙ ap (λ (n : ℕ). cond (distinct (ids_in bs)) (cond (leb n 64) 0 23) 22) all.long

  -- all ids stand in the array where it has room for them
  written : k ≤ length old → new ≡ front (ids_in bs) old
  unfolding ids_of
  written few = h.output (ids_in bs) (ids-there (transport_parameters bs) all_there) (omega (arith, few, ids-long))

  pub kept-all : k ≤ length old → take k new ≡ ids_in bs
  kept-all few = rw (written few) (rw ids-long at (take-front (ids_in bs) old))

  kept-distinct : k ≤ length old → distinct (take k new) ≡ distinct (ids_in bs)
  kept-distinct few = ap (λ (l : List ℕ). distinct l) (kept-all few)

  -- the array of `ask_parameters`
  module _ (o : length old ≡ 64) where
    pub asked-good : k ≤ 64 → distinct (take k new) ≡ true → AskedIds bs (Ok k) old new
    asked-good few d =
        let room : k ≤ length old = omega (arith, few, o) in
        record {
          is = sym (asked_is ∙ rw (sym (kept-distinct room) ∙ d, le-leb k 64 few));
          count = sym ids-long;
          output = written room;
          size = h.size ∙ o;
        }

    pub asked-few : k ≤ 64 → distinct (take k new) ≡ false → AskedIds bs (Err no.ParameterTwice) old new
    asked-few few d =
        refuses bs old new no.ParameterTwice (sym (asked_is ∙ rw (sym (kept-distinct (omega (arith, few, o))) ∙ d))) (h.size ∙ o)

    pub asked-many : 64 < k → distinct (ids_in bs) ≡ true → AskedIds bs (Err no.ListTooLong) old new
    asked-many many d = refuses bs old new no.ListTooLong (sym (asked_is ∙ rw (d, lt-leb k 64 many))) (h.size ∙ o)

    pub asked_twice : distinct (ids_in bs) ≡ false → AskedIds bs (Err no.ParameterTwice) old new
    asked_twice d = refuses bs old new no.ParameterTwice (sym (asked_is ∙ rw d)) (h.size ∙ o)
