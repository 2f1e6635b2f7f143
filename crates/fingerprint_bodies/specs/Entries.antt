-- A message read piece by piece from its front: each piece is there, with the bytes after it, or it is not in its form.
use Rattle.std.specs.Prelude.{ℕ, zero, suc, cond, List, [], ◌∷◌, length, take, drop, eqb, leb}
use Rattle.std.proofs.Math.Option.{Option, none, some}
use Rattle.wire.specs.Numbers.{number}

pub record Entry (A : Type 0) : Type 0 where
  pub value : A
  pub rest : List ℕ

abbrev pub entry : {A : Type 0} → A → List ℕ → Entry A
entry v r = record { value = v; rest = r }

-- what follows where a piece is there
unfoldable pub bind : {A B : Type 0} → Option A → (A → Option B) → Option B
bind none f = none
bind (some a) f = f a

unfoldable pub mapped : {A B : Type 0} → (A → B) → Option A → Option B
mapped f none = none
mapped f (some a) = some (f a)

-- the list that was found, empty where none was
unfoldable pub or_empty : {A : Type 0} → Option (List A) → List A
or_empty none = []
or_empty (some l) = l

-- ---- One piece

-- so many bytes
unfoldable pub taken : ℕ → List ℕ → Option (Entry (List ℕ))
taken n bs = cond (leb n (length bs)) (some (entry (take n bs) (drop n bs))) none

-- a number in so many bytes
unfoldable pub number_at : ℕ → List ℕ → Option (Entry ℕ)
number_at width bs = cond (leb width (length bs)) (some (entry (number 256 (take width bs)) (drop width bs))) none

-- a vector: the count of its bytes in so many bytes, and they
unfoldable pub vector_at : ℕ → List ℕ → Option (Entry (List ℕ))
vector_at width bs = bind (number_at width bs) (λ n. taken n.value n.rest)

-- "A list's length must reach exactly the end of its body"
unfoldable pub whole : ℕ → List ℕ → Option (List ℕ)
whole width bs = bind (vector_at width bs) (λ v. cond (eqb (length v.rest) 0) (some v.value) none)

-- a list of so many elements or more; or of at most so many
unfoldable pub at_least : {A : Type 0} → ℕ → List A → Option (List A)
at_least n l = cond (leb n (length l)) (some l) none

unfoldable pub at_most : {A : Type 0} → ℕ → List A → Option (List A)
at_most n l = cond (leb (length l) n) (some l) none

-- ---- Entries one after the other, to the end

unfoldable pub first : {A : Type 0} → A → Option (List A) → Option (List A)
first v none = none
first v (some l) = some (v ∷ l)

-- fuel is at least the count of the bytes
unfoldable pub entries : {A : Type 0} → (List ℕ → Option (Entry A)) → ℕ → List ℕ → Option (List A)
entries one zero bs = some []
entries one (suc f) [] = some []
entries one (suc f) (b ∷ bs) = bind (one (b ∷ bs)) (λ e. first e.value (entries one f e.rest))

unfoldable pub all_entries : {A : Type 0} → (List ℕ → Option (Entry A)) → List ℕ → Option (List A)
all_entries one bs = entries one (length bs) bs

-- the entries at the front, as long as a whole one stands there; fuel as in `entries`
unfoldable pub next_of : {A : Type 0} → Option (Entry A) → (List ℕ → List A) → List A
next_of none later = []
next_of (some e) later = e.value ∷ later e.rest

unfoldable pub fronts : {A : Type 0} → (List ℕ → Option (Entry A)) → ℕ → List ℕ → List A
fronts one zero bs = []
fronts one (suc f) [] = []
fronts one (suc f) (b ∷ bs) = next_of (one (b ∷ bs)) (fronts one f)

unfoldable pub front_entries : {A : Type 0} → (List ℕ → Option (Entry A)) → List ℕ → List A
front_entries one bs = fronts one (length bs) bs

-- a form of which a part of the value is told
unfoldable pub shown : {A B : Type 0} → (A → B) → (List ℕ → Option (Entry A)) → List ℕ → Option (Entry B)
shown f one bs = mapped (λ e. entry (f e.value) e.rest) (one bs)
