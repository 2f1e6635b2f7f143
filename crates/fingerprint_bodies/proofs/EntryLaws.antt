-- Entries one after the other: what a loop over them needs. Assumes nothing.
use mathlib.Core.Path.{◌≡◌, refl, ap, ◌∙◌}
use Prim.Native.Nat.{ℕ, zero, suc, ◌+◌, ◌-◌, ◌≤◌, ◌<◌}
use native.Mathlib.Omega.{arith}
use native.Mathlib.Nat.{sub-zero}
use mathlib.Core.List.{List, [], ◌∷◌, map}
use mathlib.Core.Option.{Option, none, some}
use lib.ListN.{length}
use Rattle.std.specs.Prelude.{Some, None}
use lib.Dec.{eqb}
use borrow.Author.Tests.{eqb-true, eqb-false}
use mathlib.Core.Bool.{true, false}
use Rattle.fingerprint_bodies.specs.Code.{Gives}
use Rattle.fingerprint_bodies.specs.Entries.{Entry, entry, bind, mapped, or_empty, first, entries, all_entries, shown}

module _ {A : Type 0} (one : List ℕ → Option (Entry A)) (l : List ℕ) where
  -- the entries of a rest of the list, after k of them: what an invariant speaks of
  unfoldable pub left : ℕ → List ℕ → Option (List A)
  left k rest = entries one (length l - k) rest

  pub left-start : all_entries one l ≡ left 0 l
  unfolding all_entries left
  left-start = rw (sub-zero (length l))

  turn : (k : ℕ) (rest : List ℕ) → k < length l → 1 ≤ length rest → left k rest ≡ bind (one rest) (λ e. first e.value (left (k + 1) e.rest))
  unfolding left entries
  turn k [] h i = absurd (omega arith)
  turn k (b ∷ bs) h i =
      let e : length l - k ≡ suc (length l - (k + 1)) = omega arith in
      rw e

  pub left-next : (k : ℕ) (rest new : List ℕ) (v : A) → k < length l → 1 ≤ length rest → one rest ≡ some (entry v new)
      → left k rest ≡ first v (left (k + 1) new)
  unfolding bind
  left-next k rest new v h i e = turn k rest h i ∙ rw e

  pub left_cut : (k : ℕ) (rest : List ℕ) → k < length l → 1 ≤ length rest → one rest ≡ none → left k rest ≡ none
  unfolding bind
  left_cut k rest h i e = turn k rest h i ∙ rw e

  pub left_end : (k : ℕ) → left k [] ≡ some []
  unfolding left entries
  left_end k = nil (length l - k)
    where
      nil : (f : ℕ) → entries one f [] ≡ some []
      nil zero = refl
      nil (suc f) = refl

-- how many there are: k, and those still to come
unfoldable pub plus : {A : Type 0} → ℕ → Option (List A) → Option ℕ
plus k none = none
plus k (some l) = some (k + length l)

plus-first : {A : Type 0} (k : ℕ) (v : A) (x : Option (List A)) → plus k (first v x) ≡ plus (k + 1) x
unfolding first plus
plus-first k v none = refl
plus-first k v (some l) = ap (λ (n : ℕ). some n) (omega arith)

pub empty : (l : List ℕ) → length l ≡ 0 → l ≡ []
empty [] e = refl
empty (b ∷ l) e = absurd (omega (arith, e))

-- k entries were read, up to this rest: those still to come are so many that all are counted
module _ {A : Type 0} (one : List ℕ → Option (Entry A)) (l : List ℕ) where
  pub record Counting (k : ℕ) (rest : List ℕ) : Type 0 where
    pub few : k + length rest ≤ length l
    pub all : plus 0 (all_entries one l) ≡ plus k (left one l k rest)

  pub counting-start : Counting 0 l
  counting-start = record { few = omega arith; all = ap (λ x. plus 0 x) (left-start one l) }

  module _ {k : ℕ} {rest : List ℕ} (c : Counting k rest) where
    pub counting-next : (v : A) (new : List ℕ) → Gives one rest (Some v) new → Counting (k + 1) new
    counting-next v new g =
        record {
          few = omega (arith, c.few, g.1);
          all = c.all ∙ ap (λ x. plus k x) (left-next one l k rest new v (omega (arith, c.few, g.1)) (omega (arith, g.1)) g.0) ∙ plus-first k v (left one l (k + 1) new);
        }

    -- at the end a rest is left over, or none is
    module _ {new : List ℕ} (g : Gives one rest None new) where
      pub counting_cut : eqb (length new) 0 ≡ false → plus 0 (all_entries one l) ≡ none
      unfolding plus
      counting_cut e =
          let i : 1 ≤ length rest = let o : length new ≡ 0 → ⊥ = eqb-false (length new) 0 e in omega (arith, ap length g.1, o) in
          c.all ∙ ap (λ x. plus k x) (left_cut one l k rest (omega (arith, c.few, i)) i g.0)

      pub counting-end : eqb (length new) 0 ≡ true → plus 0 (all_entries one l) ≡ some k
      unfolding plus
      counting-end e =
          let none_left : rest ≡ [] = rw g.1 at (empty new (eqb-true (length new) 0 e)) in
          c.all ∙ ap (λ x. plus k x) (ap (λ (r : List ℕ). left one l k r) none_left ∙ left_end one l k) ∙ ap (λ (n : ℕ). some n) (omega arith)

-- ---- a form of which a part of the value is told: the same entries, each told by its part

module _ {A B : Type 0} (f : A → B) (one : List ℕ → Option (Entry A)) where
  pub shown-some : (bs r : List ℕ) (v : A) → one bs ≡ some (entry v r) → shown f one bs ≡ some (entry (f v) r)
  unfolding shown mapped
  shown-some bs r v e = rw e

  pub shown-none : (bs : List ℕ) → one bs ≡ none → shown f one bs ≡ none
  unfolding shown mapped
  shown-none bs e = rw e

  pub entries_shown : (n : ℕ) (bs : List ℕ) → entries (shown f one) n bs ≡ mapped (map f) (entries one n bs)
  unfolding entries shown mapped bind first
  entries_shown zero bs = refl
  entries_shown (suc n) [] = refl
  entries_shown (suc n) (b ∷ bs) = go (λ r. entries_shown n r) (one (b ∷ bs))
    where
      each : (v : A) (x : Option (List A)) → first (f v) (mapped (map f) x) ≡ mapped (map f) (first v x)
      each v none = refl
      each v (some l) = refl

      go : ((r : List ℕ) → entries (shown f one) n r ≡ mapped (map f) (entries one n r)) → (x : Option (Entry A))
          → bind (mapped (λ e. entry (f e.value) e.rest) x) (λ e. first e.value (entries (shown f one) n e.rest))
          ≡ mapped (map f) (bind x (λ e. first e.value (entries one n e.rest)))
      go next none = refl
      go next (some v) = ap (λ (x : Option (List B)). first (f v.value) x) (next v.rest) ∙ each v.value (entries one n v.rest)

  pub all_shown : (bs : List ℕ) → all_entries (shown f one) bs ≡ mapped (map f) (all_entries one bs)
  unfolding all_entries
  all_shown bs = entries_shown (length bs) bs

-- what the count says of the list
pub plus_none : {A : Type 0} (x : Option (List A)) → plus 0 x ≡ none → x ≡ none
unfolding plus
plus_none none e = refl
plus_none (some l) e = absurd (let z : ◌≡◌ {A = ℕ} 0 1 = cc in omega arith)

-- a list that was found, of so many entries
pub record Counts {A : Type 0} (x : Option (List A)) (k : ℕ) : Type 0 where
  pub there : x ≡ some (or_empty x)
  pub long : length (or_empty x) ≡ k

pub plus-some : {A : Type 0} (x : Option (List A)) (k : ℕ) → plus 0 x ≡ some k → Counts x k
unfolding plus or_empty
plus-some none k e = absurd (let z : ◌≡◌ {A = ℕ} 0 1 = cc in omega arith)
plus-some (some l) k e = record { there = refl; long = let q : 0 + length l ≡ k = cc in omega (arith, q) }

-- ---- a list that is there

abbrev pub There : {A : Type 0} → Option (List A) → Type 0
There x = x ≡ some (or_empty x)

pub there-first : {A : Type 0} (v : A) (x : Option (List A)) → There (first v x) → There x
unfolding first or_empty
there-first v none h = absurd (let z : ◌≡◌ {A = ℕ} 0 1 = cc in omega arith)
there-first v (some l) h = refl

pub or-first : {A : Type 0} (v : A) (x : Option (List A)) → There (first v x) → or_empty (first v x) ≡ v ∷ or_empty x
unfolding first or_empty
or-first v none h = absurd (let z : ◌≡◌ {A = ℕ} 0 1 = cc in omega arith)
or-first v (some l) h = refl

pub there-not : {A : Type 0} (x : Option (List A)) → There x → x ≡ none → ⊥
there-not none h e = let z : ◌≡◌ {A = ℕ} 0 1 = cc in omega arith
there-not (some l) h e = let z : ◌≡◌ {A = ℕ} 0 1 = cc in omega arith

-- ---- fuel beyond the bytes changes nothing, where an entry takes a byte or more

abbrev pub Shrinks : {A : Type 0} → (List ℕ → Option (Entry A)) → Type 0
Shrinks {A} one = (b : ℕ) (r : List ℕ) (e : Entry A) → one (b ∷ r) ≡ some e → length e.rest ≤ length r

bind-agree : {A : Type 0} (x : Option (Entry A)) (k m : Entry A → Option (List A)) → ((e : Entry A) → x ≡ some e → k e ≡ m e) → bind x k ≡ bind x m
unfolding bind
bind-agree none k m h = refl
bind-agree (some e) k m h = h e refl

pub entries-fuel : {A : Type 0} (one : List ℕ → Option (Entry A)) → Shrinks one → (f g : ℕ) (r : List ℕ) → length r ≤ f → length r ≤ g → entries one f r ≡ entries one g r
unfolding entries
entries-fuel one sh zero zero r hf hg = refl
entries-fuel one sh zero (suc g) [] hf hg = refl
entries-fuel one sh zero (suc g) (b ∷ r) hf hg = absurd (omega arith)
entries-fuel one sh (suc f) zero [] hf hg = refl
entries-fuel one sh (suc f) zero (b ∷ r) hf hg = absurd (omega arith)
entries-fuel one sh (suc f) (suc g) [] hf hg = refl
entries-fuel {A} one sh (suc f) (suc g) (b ∷ r) hf hg =
    bind-agree (one (b ∷ r)) (λ e. first e.value (entries one f e.rest)) (λ e. first e.value (entries one g e.rest))
    (λ e q. ap (λ x. first e.value x) (entries-fuel one sh f g e.rest (omega (arith, sh b r e q)) (omega (arith, sh b r e q))))
