-- What pieces fill and hold place by place, and where they end, whatever their order. Assumes nothing.
use Prim.Native.Nat.{ℕ, ◌≤◌, ◌<◌}
use mathlib.Core.Path.{◌≡◌, refl, ap, ◌∙◌}
use mathlib.Core.Bool.{Bool, true, false, not, ◌||◌, true≢false, false≢true, or-true}
use mathlib.Core.Logic.{◌⊎◌, inl, inr, ⊎_elim}
use mathlib.Core.List.{List, [], ◌∷◌}
use native.Mathlib.Omega.{arith}
use lib.ListN.{length, get_or}
use lib.Dec.{eqb, leb, ltb}
use borrow.Author.Tests.{ltb-true, leb-true, eqb-true, lt-ltb, le-leb, eq-eqb}
use Rattle.wire.proofs.SumLaws.{and_left, and_right}
use Rattle.frames.specs.Frame.{Piece, end}
use Rattle.frames.specs.Stream.{has, byte_at, filled, held, end_of, agrees, gapless, stream}
use Rattle.frames.specs.Lists.{LiesIn, Among, Covered, Within}
use Rattle.frames.proofs.EachLaws.{each_at, each_all, length-values, get_or-values}

-- ---- has

pub lies-has : (p : Piece) (i : ℕ) → LiesIn i p → has p i ≡ true
unfolding has
lies-has p i l = rw (le-leb p.offset i l.0, lt-ltb i (end p) l.1)

pub has-lies : (p : Piece) (i : ℕ) → has p i ≡ true → LiesIn i p
unfolding has
has-lies p i e =
    (leb-true p.offset i (and_left (leb p.offset i) (ltb i (end p)) e), ltb-true i (end p) (and_right (leb p.offset i) (ltb i (end p)) e))

-- ---- filled and held

either : (b : Bool) → (b ≡ true) ⊎ (b ≡ false)
either true = inl refl
either false = inr refl

-- a filled place holds the byte of a piece that has it
pub record Held (ps : List Piece) (i : ℕ) : Type 0 where
  pub covered : Covered ps i
  pub byte : held ps i ≡ byte_at covered.by i

held-later : (p : Piece) (ps : List Piece) (i : ℕ) → has p i ≡ false → Held ps i → Held (p ∷ ps) i
unfolding held
held-later p ps i e h =
    let c = h.covered in
    record { covered = record { by = c.by; among = inr c.among; lies = c.lies }; byte = rw e h.byte }

pub filled-held : (ps : List Piece) (i : ℕ) → filled ps i ≡ true → Held ps i
unfolding filled held
filled-held [] i e = absurd (false≢true e)
filled-held (p ∷ ps) i e =
    ⊎_elim
    (λ f. record { covered = record { by = p; among = inl refl; lies = has-lies p i f }; byte = rw f })
    (λ f. held-later p ps i f (filled-held ps i (rw f at e)))
    (either (has p i))

pub filled-covered : (ps : List Piece) (i : ℕ) → filled ps i ≡ true → Covered ps i
filled-covered ps i e = (filled-held ps i e).covered

among-filled : (p : Piece) (ps : List Piece) (i : ℕ) → Among p ps → LiesIn i p → filled ps i ≡ true
unfolding filled
among-filled p [] i a l = absurd a
among-filled p (q ∷ qs) i (inl e) l = rw (← e, lies-has p i l)
among-filled p (q ∷ qs) i (inr a) l = rw (among-filled p qs i a l) (or-true (has q i))

pub covered-filled : (ps : List Piece) (i : ℕ) → Covered ps i → filled ps i ≡ true
covered-filled ps i c = among-filled c.by ps i c.among c.lies

pub held_none : (ps : List Piece) (i : ℕ) → filled ps i ≡ false → held ps i ≡ 0
unfolding filled held
held_none [] i e = refl
held_none (p ∷ ps) i e =
    ⊎_elim
    (λ f. absurd (true≢false (rw f at e)))
    (λ f. rw f (held_none ps i (rw f at e)))
    (either (has p i))

-- ---- end_of: the largest end

pub among-end : (p : Piece) (ps : List Piece) → Among p ps → end p ≤ end_of ps
unfolding end_of
among-end p [] a = absurd a
among-end p (q ∷ qs) (inl e) = rw e (omega arith)
among-end p (q ∷ qs) (inr a) = omega (arith, among-end p qs a)

pub end_of-least : (ps : List Piece) (n : ℕ) → ((p : Piece) → Among p ps → end p ≤ n) → end_of ps ≤ n
unfolding end_of
end_of-least [] n h = omega arith
end_of-least (p ∷ ps) n h = omega (arith, h p (inl refl), end_of-least ps n (λ q a. h q (inr a)))

pub end_of-within : (ps qs : List Piece) → Within ps qs → end_of ps ≤ end_of qs
end_of-within ps qs w = end_of-least ps (end_of qs) (λ p a. among-end p qs (w p a))

pub end_of-same : (ps qs : List Piece) → Within ps qs → Within qs ps → end_of ps ≡ end_of qs
end_of-same ps qs w v = omega (arith, end_of-within ps qs w, end_of-within qs ps v)

pub covered-within : (ps qs : List Piece) (i : ℕ) → Within ps qs → Covered ps i → Covered qs i
covered-within ps qs i w c = record { by = c.by; among = w c.by c.among; lies = c.lies }

pub covered-below : (ps : List Piece) (i : ℕ) → Covered ps i → i < end_of ps
covered-below ps i c = omega (arith, c.lies.1, among-end c.by ps c.among)

-- past the end nothing is filled
pub past_end : (ps : List Piece) (i : ℕ) → end_of ps ≤ i → filled ps i ≡ false
past_end ps i h =
    ⊎_elim (λ e. absurd (omega (arith, covered-below ps i (filled-covered ps i e)))) (λ e. e) (either (filled ps i))

pub held-past-end : (ps : List Piece) (i : ℕ) → end_of ps ≤ i → held ps i ≡ 0
held-past-end ps i h = held_none ps i (past_end ps i h)

-- ---- agrees: where a piece has a byte and the place is filled, the place holds that byte

pub agrees_at_lem : (ps : List Piece) (p : Piece) (i : ℕ) → agrees ps p ≡ true → LiesIn i p → filled ps i ≡ true → held ps i ≡ byte_at p i
unfolding agrees
agrees_at_lem ps p i e l f =
    let at_i : not (filled ps i) || eqb (held ps i) (byte_at p i) ≡ true =
    each_at (λ j. not (filled ps j) || eqb (held ps j) (byte_at p j)) p.offset (length p.bytes) i e l.0 l.1 in
    eqb-true (held ps i) (byte_at p i) (rw f at at_i)

pub agrees-all : (ps : List Piece) (p : Piece) → ((i : ℕ) → LiesIn i p → filled ps i ≡ true → held ps i ≡ byte_at p i) → agrees ps p ≡ true
unfolding agrees
agrees-all ps p h =
    each_all (λ j. not (filled ps j) || eqb (held ps j) (byte_at p j)) p.offset (length p.bytes)
    (λ i a b.
    ⊎_elim (λ f. rw (eq-eqb (held ps i) (byte_at p i) (h i (a, b) f)) (or-true (not (filled ps i)))) (λ f. rw f) (either (filled ps i)))

-- ---- gapless and stream

pub gapless-at : (ps : List Piece) (i : ℕ) → gapless ps ≡ true → i < end_of ps → Covered ps i
unfolding gapless
gapless-at ps i e h = filled-covered ps i (each_at (filled ps) 0 (end_of ps) i e (omega arith) (omega arith))

pub gapless-all : (ps : List Piece) → ((i : ℕ) → i < end_of ps → Covered ps i) → gapless ps ≡ true
unfolding gapless
gapless-all ps h = each_all (filled ps) 0 (end_of ps) (λ i a b. covered-filled ps i (h i (omega arith)))

pub length-stream : (ps : List Piece) → length (stream ps) ≡ end_of ps
unfolding stream
length-stream ps = length-values (held ps) 0 (end_of ps)

pub get_or-stream : (ps : List Piece) (i : ℕ) → i < end_of ps → get_or (stream ps) i 0 ≡ held ps i
unfolding stream
get_or-stream ps i h = get_or-values (held ps) 0 (end_of ps) i h ∙ ap (held ps) (omega arith)
