-- What the iterator over a list gives: the entries at its front, which are all of them where the list was found. Assumes nothing.
use mathlib.Core.Path.{◌≡◌, refl, sym, ap, ◌∙◌}
use Prim.Native.Nat.{ℕ, zero, suc, ◌≤◌}
use native.Mathlib.Nat.{le_refl}
use native.Mathlib.Omega.{arith}
use mathlib.Core.List.{List, [], ◌∷◌, map}
use mathlib.Core.Option.{Option, none, some}
use lib.ListN.{length}
use Rattle.std.specs.Prelude as std
use Rattle.std.specs.Prelude.{Some, None}
use Rattle.std.specs.Iterator.{AlwaysYields}
use Rattle.std.proofs.lemmas.Iterator.{YieldsList}
use Rattle.fingerprint_bodies.specs.Entries.{Entry, bind, mapped, or_empty, first, number_at, entries, all_entries, next_of, fronts, front_entries, shown}
use Rattle.fingerprint_bodies.specs.Forms.{words_in}
use Rattle.wire.specs.Numbers.{number}
use Rattle.fingerprint_bodies.proofs.PieceLaws.{number-there, number_cut}
use Rattle.fingerprint_bodies.proofs.BindLaws.{none-some, same_some}
use Rattle.fingerprint_bodies.specs.Code.{Gives}
use Rattle.fingerprint_bodies.proofs.EntryLaws.{There, all_shown}

-- a list that begins with an entry: the entry, and what follows it
record Begins {A : Type 0} (v : A) (x : Option (List A)) (l : List A) : Type 0 where
  rest : List A
  is : l ≡ v ∷ rest
  after : x ≡ some rest

begins : {A : Type 0} (v : A) (x : Option (List A)) (l : List A) → first v x ≡ some l → Begins v x l
unfolding first
begins v none l e = absurd (none-some e)
begins v (some r) l e = record { rest = r; is = cc; after = refl }

module _ {A : Type 0} (form : List ℕ → Option (Entry A)) where
  -- these entries stand at the front of the bytes, as long as a whole one does
  pub record Holds (bs : List ℕ) (l : List A) : Type 0 where
    pub fuel : ℕ
    pub enough : length bs ≤ fuel
    pub is : fronts form fuel bs ≡ l

  pub holds : (bs : List ℕ) → Holds bs (front_entries form bs)
  unfolding front_entries
  holds bs = record { fuel = length bs; enough = le_refl (length bs); is = refl }

  -- the next entry, and those after it
  pub record HoldsNext (v : A) (new : List ℕ) (l : List A) : Type 0 where
    pub later : List A
    pub is : l ≡ v ∷ later
    pub holds : Holds new later

  pub holds-next : {bs new : List ℕ} {l : List A} {v : A} → Holds bs l → Gives form bs (Some v) new → HoldsNext v new l
  unfolding fronts next_of
  holds-next {bs} {new} {l} {v} h g = go h.fuel bs h.enough h.is g
    where
      go : (f : ℕ) (r : List ℕ) → length r ≤ f → fronts form f r ≡ l → Gives form r (Some v) new → HoldsNext v new l
      go f [] h e g = absurd (omega (arith, g.1))
      go zero (b ∷ r) h e g = absurd (omega arith)
      go (suc f) (b ∷ r) h e g =
          record { later = fronts form f new; is = sym (rw g.0 at e); holds = record { fuel = f; enough = omega (arith, g.1); is = refl } }

  pub holds-end : {bs new : List ℕ} {l : List A} → Holds bs l → Gives form bs None new → l ≡ []
  unfolding fronts next_of
  holds-end {bs} {new} {l} h g = go h.fuel bs h.is g
    where
      go : (f : ℕ) (r : List ℕ) → fronts form f r ≡ l → Gives form r None new → l ≡ []
      go zero r e g = sym e
      go (suc f) [] e g = sym e
      go (suc f) (b ∷ r) e g = sym (rw g.0 at e)

  -- so an iterator over the bytes gives them
  module _ {S : Type 0} (rest : S → List ℕ) where
    abbrev pub steps : S → std.Option A → S → Type 0
    steps s r t = Gives form (rest s) r (rest t)

    always : (s : S) (l : List A) → Holds (rest s) l → AlwaysYields steps (λ x. x) s l
    always s [] h = λ x j g. let n = holds-next h g in let z : ◌≡◌ {A = ℕ} 0 1 = cc in omega arith
    always s (y ∷ l) h = (
      λ j g. let n = holds-end h g in let z : ◌≡◌ {A = ℕ} 0 1 = cc in omega arith,
      λ x j g.
          let n = holds-next h g in
          let same : n.later ≡ l = cc in
          (cc, always j l (rw same at n.holds)),
    )

    pub yields : {s : S} {bs : List ℕ} {l : List A} → rest s ≡ bs → Holds bs l → YieldsList steps (λ x. x) s l
    yields {s} {bs} {l} e h = record { runs = always s l (rw e h) }

-- where all are whole, these are all
module _ {A : Type 0} (form : List ℕ → Option (Entry A)) where
  fronts-all : (f : ℕ) (bs : List ℕ) (l : List A) → entries form f bs ≡ some l → fronts form f bs ≡ l
  unfolding entries fronts bind next_of
  fronts-all zero bs l e = same_some [] l e
  fronts-all (suc f) [] l e = same_some [] l e
  fronts-all (suc f) (b ∷ bs) l e = go (λ r k. fronts-all f r k) (form (b ∷ bs)) e
    where
      go : ((r : List ℕ) (k : List A) → entries form f r ≡ some k → fronts form f r ≡ k) → (x : Option (Entry A))
          → bind x (λ e. first e.value (entries form f e.rest)) ≡ some l → next_of x (fronts form f) ≡ l
      go later none e = absurd (none-some e)
      go later (some x) e =
          let n = begins x.value (entries form f x.rest) l e in
          ap (λ (r : List A). x.value ∷ r) (later x.rest n.rest n.after) ∙ sym n.is

  pub front-all : (bs : List ℕ) {l : List A} → all_entries form bs ≡ some l → front_entries form bs ≡ l
  unfolding all_entries front_entries
  front-all bs {l} e = fronts-all (length bs) bs l e

-- the same, of entries that are told by a part
pub front-shown : {A B : Type 0} (f : A → B) (one : List ℕ → Option (Entry A)) (bs : List ℕ) → There (all_entries one bs)
    → front_entries (shown f one) bs ≡ map f (or_empty (all_entries one bs))
unfolding mapped
front-shown {A} f one bs t = front-all (shown f one) bs (all_shown f one bs ∙ ap (mapped (map f)) t ∙ told (or_empty (all_entries one bs)))
  where
    told : (l : List A) → mapped (map f) (some l) ≡ some (map f l)
    told l = refl

-- ---- 16-bit numbers

pub front-words : (bs : List ℕ) → front_entries (number_at 2) bs ≡ words_in bs
unfolding front_entries fronts next_of words_in
front-words bs = go (length bs) bs (le_refl (length bs))
  where
    go : (f : ℕ) (r : List ℕ) → length r ≤ f → fronts (number_at 2) f r ≡ words_in r
    go zero [] h = refl
    go zero (a ∷ r) h = absurd (omega arith)
    go (suc f) [] h = refl
    go (suc f) (a ∷ []) h = rw (number_cut 2 (a ∷ []) (omega arith)) refl
    go (suc f) (a ∷ b ∷ r) h = rw (number-there 2 (a ∷ b ∷ r) (omega arith)) (ap (λ (l : List ℕ). number 256 (a ∷ b ∷ []) ∷ l) (go f r (omega arith)))
