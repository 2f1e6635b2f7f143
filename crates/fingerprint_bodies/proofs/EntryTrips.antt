-- Entries one after the other, written and read: where each entry comes back, the list does. Assumes nothing.
use Prim.Native.Nat.{ℕ, zero, suc, ◌+◌, ◌≤◌}
use mathlib.Core.Path.{◌≡◌, refl, ap, ◌∙◌}
use mathlib.Core.List.{List, [], ◌∷◌, ◌++◌}
use mathlib.Core.Option.{Option, none, some}
use native.Mathlib.Nat.{le_refl}
use native.Mathlib.Omega.{arith}
use lib.ListN.{length, length-append}
use Rattle.wire.specs.Numbers.{Bytes}
use Rattle.fingerprint_bodies.specs.Entries.{Entry, entry, bind, first, entries, all_entries}
use Rattle.fingerprint_bodies.specs.Conditions.{All}
use Rattle.fingerprint_bodies.proofs.BindLaws.{none-some, same_some, bind-some}
use Rattle.fingerprint_bodies.proofs.RoundTrip.{bytes-right, bytes_same}

-- the bytes of a list are those of its elements, one after the other
pub record InTurn {A : Type 0} (code : A → List ℕ) (codes : List A → List ℕ) : Type 0 where
  pub none_left : codes [] ≡ []
  pub next : (x : A) (xs : List A) → codes (x ∷ xs) ≡ code x ++ codes xs

-- what is read from bytes is a value in its form, and they begin with its bytes
abbrev pub Back : {A : Type 0} → (List ℕ → Option (Entry A)) → (A → List ℕ) → (A → Type 0) → Type 0
Back {A} one code Good = (bs : List ℕ) (e : Entry A) → Bytes bs → one bs ≡ some e → (code e.value ++ e.rest ≡ bs) × Good e.value

-- a value in its form is read from its bytes, whatever follows
abbrev pub Read : {A : Type 0} → (List ℕ → Option (Entry A)) → (A → List ℕ) → (A → Type 0) → Type 0
Read {A} one code Good = (x : A) (rest : List ℕ) → Good x → one (code x ++ rest) ≡ some (entry x rest)

first_some : {A : Type 0} (v : A) (x : Option (List A)) (l : List A) → first v x ≡ some l → (m : List A) × (x ≡ some m) × (v ∷ m ≡ l)
unfolding first
first_some v none l e = absurd (none-some e)
first_some v (some m) l e = (m, refl, same_some (v ∷ m) l e)

module _ {A : Type 0} (one : List ℕ → Option (Entry A)) (code : A → List ℕ) (codes : List A → List ℕ) (Good : A → Type 0) (turn : InTurn code codes) (takes : (x : A) → Good x → 1 ≤ length (code x)) where
  pub entries-back : Back one code Good → (f : ℕ) (bs : List ℕ) (l : List A) → Bytes bs → length bs ≤ f → entries one f bs ≡ some l → (codes l ≡ bs) × All Good l
  unfolding entries
  entries-back back zero [] l b h e = rw (← same_some [] l e) (turn.none_left, tt)
  entries-back back zero (x ∷ bs) l b h e = absurd (omega arith)
  entries-back back (suc f) [] l b h e = rw (← same_some [] l e) (turn.none_left, tt)
  entries-back back (suc f) (x ∷ bs) l b h e =
      let p = bind-some (one (x ∷ bs)) (λ y. first y.value (entries one f y.rest)) l e in
      let v = p.value.value in
      let r = p.value.rest in
      let q = back (x ∷ bs) p.value b p.is in
      let m = first_some v (entries one f r) l p.after in
      let short : length r ≤ f = omega (arith, takes v q.1, length-append (code v) r, ap length q.0, h) in
      let i = entries-back back f r m.0 (bytes-right (code v) r (bytes_same q.0 b)) short m.1 in
      rw (← m.2) (rw (turn.next v m.0, i.0) q.0, (q.1, i.1))

  entries_none : (f : ℕ) → entries one f [] ≡ some []
  unfolding entries
  entries_none zero = refl
  entries_none (suc f) = refl

  entries-turn : (f : ℕ) (bs : List ℕ) → 1 ≤ length bs → entries one (suc f) bs ≡ bind (one bs) (λ e. first e.value (entries one f e.rest))
  unfolding entries
  entries-turn f [] h = absurd (omega arith)
  entries-turn f (b ∷ bs) h = refl

  pub entries-read : Read one code Good → (l : List A) (f : ℕ) → All Good l → length (codes l) ≤ f → entries one f (codes l) ≡ some l
  unfolding bind first
  entries-read read [] f g h = rw turn.none_left (entries_none f)
  entries-read read (x ∷ xs) zero g h = absurd (omega (arith, h, takes x g.0, ap length (turn.next x xs), length-append (code x) (codes xs)))
  entries-read read (x ∷ xs) (suc f) g h =
      let long : length (codes (x ∷ xs)) ≡ length (code x) + length (codes xs) = ap length (turn.next x xs) ∙ length-append (code x) (codes xs) in
      let here : 1 ≤ length (code x ++ codes xs) = omega (arith, takes x g.0, length-append (code x) (codes xs)) in
      rw (
        turn.next x xs,
        entries-turn f (code x ++ codes xs) here,
        read x (codes xs) g.0,
        entries-read read xs f g.1 (omega (arith, h, long, takes x g.0)),
      )

  pub all_read : Read one code Good → (l : List A) → All Good l → all_entries one (codes l) ≡ some l
  unfolding all_entries
  all_read read l g = entries-read read l (length (codes l)) g (le_refl (length (codes l)))
