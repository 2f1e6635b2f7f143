-- Buffers that carry pieces: a write adds its piece, and what is asked of them is what is asked of the pieces. Assumes nothing.
use Prim.Native.Nat.{ℕ, ◌+◌, ◌-◌, ◌≤◌, ◌<◌}
use mathlib.Core.Path.{◌≡◌, refl, sym, ap, ◌∙◌}
use mathlib.Core.Logic.{◌⊎◌, inl, inr}
use mathlib.Core.Bool.{Bool, true, false, not, and-false, not-not}
use mathlib.Core.List.{List, [], ◌∷◌, ◌++◌}
use native.Mathlib.Omega.{arith}
use lib.ListN.{length, take, drop, get_or, replicate, length-replicate, get_or-replicate}
use lib.Seq.{take_at, drop_at}
use lib.Dec.{eqb}
use borrow.Author.Tests.{le-leb, lt-leb, lt-ltb, le-ltb}
use Rattle.wire.specs.Front.{front, front_at}
use Rattle.wire.specs.Sums.{indicator}
use Rattle.frames.specs.Frame.{Piece, end}
use Rattle.frames.specs.Stream.{has, byte_at, filled, held, end_of, values, agrees, gapless, stream}
use Rattle.frames.specs.Join.{padded}
use Rattle.frames.specs.Buffers.{mark, Carries, agreeing, marked}
use Rattle.frames.proofs.EachLaws.{each_same, each_at, length-values, values_of, get_or-values, values_same, values-constant, values-split}
use Rattle.frames.proofs.StreamLaws.{past_end, held-past-end}

-- ---- the places of a piece

module _ (p : Piece) where
  has_in : (j : ℕ) → j < length p.bytes → has p (p.offset + j) ≡ true
  unfolding has
  has_in j h = rw (le-leb p.offset (p.offset + j) (omega arith), lt-ltb (p.offset + j) (end p) (omega arith))

  has-below : (i : ℕ) → i < p.offset → has p i ≡ false
  unfolding has
  has-below i h = rw (lt-leb p.offset i h)

  has_above : (i : ℕ) → end p ≤ i → has p i ≡ false
  unfolding has
  has_above i h = rw (le-ltb i (end p) h, and-false)

  byte-in : (j : ℕ) → byte_at p (p.offset + j) ≡ get_or p.bytes j 0
  unfolding byte_at
  byte-in j = let z : p.offset + j - p.offset ≡ j = omega arith in rw z

-- ---- values written over

-- values in three parts: at, k and m of them
three-parts : (f : ℕ → ℕ) (at k m n : ℕ) → n ≡ at + (k + m) → values f 0 n ≡ values f 0 at ++ (values f at k ++ values f (at + k) m)
three-parts f at k m n e =
    let z : 0 + at ≡ at = omega arith in
    let split = values-split f 0 at (k + m) in
    rw (e, rw z at split, values-split f at k m)

part-of-values : (f : ℕ → ℕ) (at k n : ℕ) → at + k ≤ n → take k (drop at (values f 0 n)) ≡ values f at k
part-of-values f at k n h =
    let m = n - (at + k) in
    let tail = values f at k ++ values f (at + k) m in
    rw (three-parts f at k m n (omega arith), drop_at (values f 0 at) tail at (length-values f 0 at))
    (take_at (values f at k) (values f (at + k) m) k (length-values f at k))

-- a list written over values of f, where g is f outside of it
written : (f g : ℕ → ℕ) (at n : ℕ) (ys : List ℕ) → at + length ys ≤ n → ((i : ℕ) → (i < at) ⊎ (at + length ys ≤ i) → f i ≡ g i)
    → ((j : ℕ) → j < length ys → get_or ys j 0 ≡ g (at + j)) → front_at at ys (values f 0 n) ≡ values g 0 n
unfolding front front_at
written f g at n ys h outside inside =
    let k = length ys in
    let m = n - (at + k) in
    let z : n ≡ at + (k + m) = omega arith in
    let tail = values f at k ++ values f (at + k) m in
    rw (
      three-parts f at k m n z,
      three-parts g at k m n z,
      take_at (values f 0 at) tail at (length-values f 0 at),
      drop_at (values f 0 at) tail at (length-values f 0 at),
      drop_at (values f at k) (values f (at + k) m) k (length-values f at k),
      values_same f g 0 at (λ i a b. outside i (inl (omega arith))),
      values_same f g (at + k) m (λ i a b. outside i (inr a)),
      ← values_of ys g at k refl inside,
    )

-- ---- what the buffers carry

indicator-none : (b : Bool) → eqb (indicator b) 0 ≡ not b
indicator-none true = refl
indicator-none false = refl

pub cleared : (n m : ℕ) → Carries [] (replicate n 0) (replicate m 0) 0
unfolding held filled end_of
cleared n m =
    record {
      bytes = rw (length-replicate {A = ℕ}) (sym (values-constant (held []) 0 0 n (λ i a b. refl)));
      ones = rw (length-replicate {A = ℕ}) (sym (values-constant (mark []) 0 0 m (λ i a b. refl)));
      ends = refl;
    }

module _ (placed : List Piece) (p : Piece) where
  held-outside : (i : ℕ) → (i < p.offset) ⊎ (end p ≤ i) → (held placed i ≡ held (p ∷ placed) i) × (mark placed i ≡ mark (p ∷ placed) i)
  unfolding held filled
  held-outside i (inl h) = (rw (has-below p i h), rw (has-below p i h))
  held-outside i (inr h) = (rw (has_above p i h), rw (has_above p i h))

  held-inside : (j : ℕ) → j < length p.bytes → get_or p.bytes j 0 ≡ held (p ∷ placed) (p.offset + j)
  unfolding held
  held-inside j h = rw (has_in p j h, byte-in p j)

  mark-inside : (j : ℕ) → j < length p.bytes → 1 ≡ mark (p ∷ placed) (p.offset + j)
  unfolding filled
  mark-inside j h = rw (has_in p j h)

  module _ (out marks : List ℕ) (e : ℕ) (c : Carries placed out marks e) (ho : end p ≤ length out) (hm : end p ≤ length marks) where
    -- with a piece written over them, the buffers carry it too; nothing need agree
    pub bytes-laid : front_at p.offset p.bytes out ≡ values (held (p ∷ placed)) 0 (length out)
    bytes-laid =
        ap (λ (l : List ℕ). front_at p.offset p.bytes l) c.bytes
        ∙ written (held placed) (held (p ∷ placed)) p.offset (length out) p.bytes ho (λ i o. (held-outside i o).0) held-inside

    pub ones-laid : front_at p.offset (replicate (length p.bytes) 1) marks ≡ values (mark (p ∷ placed)) 0 (length marks)
    ones-laid =
        let n = length p.bytes in
        let z = length-replicate {A = ℕ} n 1 in
        ap (λ (l : List ℕ). front_at p.offset (replicate n 1) l) c.ones
        ∙ written (mark placed) (mark (p ∷ placed)) p.offset (length marks) (replicate n 1) (rw z hm) (rw z (λ i o. (held-outside i o).1))
        (rw z (λ j h. get_or-replicate n j 1 0 h ∙ mark-inside j h))

    -- the question that is asked of the parts of the buffers
    pub agreeing-as :
        let n = length p.bytes in
        agreeing p.bytes (take n (drop p.offset out)) (take n (drop p.offset marks)) ≡ agrees placed p
    unfolding agreeing agrees
    agreeing-as =
        let n = length p.bytes in
        let o = p.offset in
        let po : take n (drop o out) ≡ values (held placed) o n = rw c.bytes (part-of-values (held placed) o n (length out) ho) in
        let pm : take n (drop o marks) ≡ values (mark placed) o n = rw c.ones (part-of-values (mark placed) o n (length marks) hm) in
        rw (po, pm)
        (each_same _ _ 0 o n (λ j h. let z : 0 + j ≡ j = omega arith in rw (z, get_or-values (held placed) o n j h, get_or-values (mark placed) o n j h, byte-in p j, indicator-none)))

-- ---- after all frames

values-padded : (f : ℕ → ℕ) (e n : ℕ) → e ≤ n → ((i : ℕ) → e ≤ i → f i ≡ 0) → values f 0 n ≡ padded (values f 0 e) n
unfolding padded
values-padded f e n h none =
    let k : 0 + e ≡ e = omega arith in
    let z : n ≡ e + (n - e) = omega arith in
    let after : values f e (n - e) ≡ replicate (n - e) 0 = values-constant f 0 e (n - e) (λ i a b. none i a) in
    let split = values-split f 0 e (n - e) in
    rw length-values (ap (values f 0) z ∙ rw (k, after) at split)

module _ (placed : List Piece) (out marks : List ℕ) (e : ℕ) (c : Carries placed out marks e) (he : e ≤ length marks) where
  pub marked-as : marked (take e marks) ≡ gapless placed
  unfolding marked gapless
  marked-as =
      let z : take e marks ≡ values (mark placed) 0 e = rw c.ones (part-of-values (mark placed) 0 e (length marks) (omega arith)) in
      rw (z, length-values, ← c.ends)
      (each_same _ _ 0 0 e (λ j h. let k : 0 + j ≡ j = omega arith in rw (k, get_or-values (mark placed) 0 e j h, k, indicator-none, not-not)))

  pub stream-held : e ≤ length out → out ≡ padded (stream placed) (length out)
  unfolding stream
  stream-held ho =
      rw (← c.ends) (c.bytes ∙ values-padded (held placed) e (length out) ho (λ i a. held-past-end placed i (rw c.ends at a)))

  pub ones-held : gapless placed ≡ true → marks ≡ padded (replicate (length (stream placed)) 1) (length marks)
  unfolding stream gapless
  ones-held g =
      let below : values (mark placed) 0 e ≡ replicate e 1 =
      values-constant (mark placed) 1 0 e (λ i a b. ap indicator (each_at (filled placed) 0 e i (rw (← c.ends) at g) a b)) in
      let all : values (mark placed) 0 (length marks) ≡ padded (values (mark placed) 0 e) (length marks) =
      values-padded (mark placed) e (length marks) he (λ i a. ap indicator (past_end placed i (rw c.ends at a))) in
      rw (length-values, ← c.ends) (c.ones ∙ rw below at all)
