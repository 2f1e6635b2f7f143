-- Parameter ids one by one: whether one is among the first, and the first that is among those before it. Assumes nothing.
use Prim.Native.Nat.{ℕ, zero, suc, ◌+◌, ◌-◌, ◌≤◌, ◌<◌}
use mathlib.Core.Path.{◌≡◌, refl, sym, ◌∙◌}
use mathlib.Core.Bool.{true, false, cond}
use mathlib.Core.List.{List, [], ◌∷◌, ◌++◌, append_assoc}
use mathlib.Core.Option.{Option, none, some}
use native.Mathlib.Nat.{sub-zero, zero-add}
use native.Mathlib.Omega.{arith}
use lib.ListN.{length}
use Rattle.std.specs.Prelude.{Some, None}
use Rattle.wire.specs.Sums.{member}
use Rattle.fingerprint_bodies.specs.Body.{Parameter}
use Rattle.fingerprint_bodies.specs.Entries.{Entry, entry, mapped, shown}
use Rattle.fingerprint_bodies.specs.Forms.{one_parameter, id_of}
use Rattle.fingerprint_bodies.specs.Code.{Gives}
use Rattle.fingerprint_parameters.proofs.LaterLaws.{ids_form}
use Rattle.fingerprint_stops.specs.Stops.{repeated_or, repeated_from, repeated_at}
use Rattle.fingerprint_stops.specs.Code.{id_then, first_ids}

-- ---- one parameter

-- what is asked of a parameter is asked of its id and of what follows it
told : {A : Type 0} (f : Option (Entry Parameter) → A) (g : Entry ℕ → A) → ((p : Entry Parameter) → f (some p) ≡ g (entry (id_of p.value) p.rest))
    → (x : Option (Entry Parameter)) {id : ℕ} {new : List ℕ} → mapped (λ e. entry (id_of e.value) e.rest) x ≡ some (entry id new) → f x ≡ g (entry id new)
unfolding mapped
told f g h none e = absurd (let z : ◌≡◌ {A = ℕ} 0 1 = cc in omega arith)
told f g h (some p) e = h p ∙ cc

none-told : (x : Option (Entry Parameter)) → mapped (λ e. entry (id_of e.value) e.rest) x ≡ none → x ≡ none
unfolding mapped
none-told none e = refl
none-told (some p) e = absurd (let z : ◌≡◌ {A = ℕ} 0 1 = cc in omega arith)

module _ (bs new : List ℕ) where
  module _ (id : ℕ) (g : Gives ids_form bs (Some id) new) where
    pub first-next : (n : ℕ) → first_ids (suc n) bs ≡ id ∷ first_ids n new
    unfolding first_ids shown
    first-next n = told (λ x. id_then x (λ rest. first_ids n rest)) (λ e. e.value ∷ first_ids n e.rest) (λ p. refl) (one_parameter bs) g.0

    repeated-next : (f : ℕ) (before : List ℕ)
        → repeated_from (suc f) before bs ≡ cond (member id before) 0 (length bs - length new + repeated_from f (before ++ (id ∷ [])) new)
    unfolding repeated_from shown
    repeated-next f before =
        told (λ x. repeated_or before bs x (λ id rest. repeated_from f (before ++ (id ∷ [])) rest))
        (λ e. cond (member e.value before) 0 (length bs - length e.rest + repeated_from f (before ++ (e.value ∷ [])) e.rest)) (λ p. refl) (one_parameter bs) g.0

  module _ (g : Gives ids_form bs None new) where
    cut : one_parameter bs ≡ none
    unfolding shown
    cut = none-told (one_parameter bs) g.0

    pub first-cut : (n : ℕ) → first_ids n bs ≡ []
    unfolding first_ids
    first-cut zero = refl
    first-cut (suc n) = rw cut

    repeated-cut : (f : ℕ) (before : List ℕ) → repeated_from f before bs ≡ 0
    unfolding repeated_from
    repeated-cut zero before = refl
    repeated-cut (suc f) before = rw cut

pub first-none : (bs : List ℕ) → first_ids 0 bs ≡ []
unfolding first_ids
first-none bs = refl

-- of a list of n parameters none is left, or none is whole
pub first-end : (bs new : List ℕ) (n : ℕ) → (0 < n → Gives ids_form bs None new) → first_ids n bs ≡ []
first-end bs new zero g = first-none bs
first-end bs new (suc n) g = first-cut bs new (g (omega arith)) (suc n)

-- ---- the first that is among those before it

-- k parameters stand before a place, the rest is left, and none of their ids is among those before it
pub record Repeating (body rest : List ℕ) (at k : ℕ) : Type 0 where
  pub place : at + length rest ≡ length body
  pub few : k ≤ at
  pub ids : (m : ℕ) → first_ids (k + m) body ≡ first_ids k body ++ first_ids m rest
  pub is : repeated_at body ≡ at + repeated_from (length body - k) (first_ids k body) rest

pub repeating-start : (body : List ℕ) → Repeating body body 0 0
unfolding repeated_at
repeating-start body =
    record {
      place = zero-add (length body);
      few = omega arith;
      ids = λ m. rw (first-none body, zero-add m);
      is = rw (sub-zero (length body), first-none body) (omega arith);
    }

module _ {body rest new : List ℕ} {at k : ℕ} (r : Repeating body rest at k) where
  pub repeating-end : Gives ids_form rest None new → at ≡ repeated_at body
  repeating-end g = sym (r.is ∙ rw (repeated-cut rest new g (length body - k) (first_ids k body)) (omega arith))

  module _ {id : ℕ} (g : Gives ids_form rest (Some id) new) where
    left : length body - k ≡ suc (length body - (k + 1))
    left = omega (arith, r.few, r.place, g.1)

    one_more : first_ids (k + 1) body ≡ first_ids k body ++ (id ∷ [])
    one_more = r.ids 1 ∙ rw (first-next rest new id g 0, first-none new)

    pub repeating-here : member id (first_ids k body) ≡ true → at ≡ repeated_at body
    repeating-here m = sym (r.is ∙ rw (left, repeated-next rest new id g (length body - (k + 1)) (first_ids k body), m) (omega arith))

    pub repeating-next : member id (first_ids k body) ≡ false → Repeating body new (length body - length new) (k + 1)
    repeating-next m =
        record {
          place = omega (arith, r.place, g.1);
          few = omega (arith, r.place, r.few, g.1);
          ids = more;
          is = r.is ∙ rw (left, repeated-next rest new id g (length body - (k + 1)) (first_ids k body), m, ← one_more) (omega (arith, r.place, g.1));
        }
      where
        more : (n : ℕ) → first_ids (k + 1 + n) body ≡ first_ids (k + 1) body ++ first_ids n new
        more n =
            let z : k + 1 + n ≡ k + suc n = omega arith in
            rw (z, r.ids (suc n), first-next rest new id g n, one_more, append_assoc)
