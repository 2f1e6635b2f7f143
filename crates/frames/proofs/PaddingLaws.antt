-- Bytes 00 at the front are PADDING frames, which place nothing: passed over together or one by one. Assumes nothing.
use Prim.Native.Nat.{ℕ, zero, suc, zero-le, ◌+◌, ◌-◌, ◌≤◌, ◌<◌}
use mathlib.Core.Path.{◌≡◌, refl, sym, ap, ◌∙◌}
use mathlib.Core.Bool.{Bool, true, false, not, cond, false≢true}
use mathlib.Core.Logic.{⊎_elim}
use mathlib.Core.List.{List, [], ◌∷◌, ◌++◌}
use native.Mathlib.Omega.{arith}
use lib.ListN.{length, take, drop, get_or, length-drop, length-append}
use lib.Seq.{get_or-take, get_or-drop, length-take-le, take_at, drop_at, drop-drop}
use Rattle.std.specs.Prelude.{Some, None, nat_lt, ◌==◌}
use Rattle.std.specs.Option.{unwrap_or}
use Rattle.std.specs.List.{position, position_or_len}
use Rattle.std.proofs.lemmas.List.Sums.{prefix_len-le-length, fails_before_first}
use borrow.Author.Tests.{eqb-true, ltb-false}
use Rattle.wire.specs.Answer.{result}
use Rattle.wire.proofs.ListLaws.{lt-or-le}
use Rattle.frames.specs.Frame.{Piece}
use Rattle.frames.specs.Read.{read_frame}
use Rattle.frames.specs.declared.reading.Frame.TheVariants as frame
use Rattle.frames.specs.Buffers.{zero_at, zeros, Padding}
use Rattle.frames.proofs.EachLaws.{each_at}
use Rattle.frames.proofs.RunLaws.{Running, goes_on}
use Rattle.frames.proofs.JoinLaws.{Laying}

-- no byte
pub padding_none : (bs : List ℕ) → Padding 0 bs
padding_none bs = record { within = zero-le; zero = λ i h. absurd (omega arith) }

-- a block more, and a byte more
pub padding-more : (at n : ℕ) (bs : List ℕ) → Padding at bs → at + n ≤ length bs → zeros (take n (drop at bs)) ≡ true → Padding (at + n) bs
unfolding zeros
padding-more at n bs p h z = record { within = h; zero = λ i l. ⊎_elim (p.zero i) (λ k. later i k l) (lt-or-le i at) }
  where
    block : List ℕ
    block = take n (drop at bs)

    long : length block ≡ n
    long = length-take-le n (drop at bs) (omega (arith, length-drop at bs))

    later : (i : ℕ) → at ≤ i → i < at + n → get_or bs i 0 ≡ 0
    later i k l =
        let j : at + (i - at) ≡ i = omega arith in
        let zero-there : get_or block (i - at) 0 ≡ 0 =
        eqb-true (get_or block (i - at) 0) 0 (each_at (zero_at block) 0 (length block) (i - at) z (omega arith) (omega (arith, long))) in
        rw j at (sym (get_or-take n (drop at bs) (i - at) 0 (omega (arith, long)) ∙ get_or-drop at bs (i - at) 0) ∙ zero-there)

pub padding-one : (at : ℕ) (bs : List ℕ) → Padding at bs → at < length bs → get_or bs at 0 ≡ 0 → Padding (at + 1) bs
padding-one at bs p h z = record { within = omega arith; zero = λ i l. ⊎_elim (p.zero i) (λ k. last i k l) (lt-or-le i at) }
  where
    last : (i : ℕ) → at ≤ i → i < at + 1 → get_or bs i 0 ≡ 0
    last i k l = let e : i ≡ at = omega arith in rw e z

-- the next block of those that are left
pub next-block : (at : ℕ) (bs rest later block : List ℕ) → Padding at bs → rest ≡ drop at bs → rest ≡ block ++ later → length block ≡ 16
    → zeros block ≡ true → Padding (at + 16) bs × (later ≡ drop (at + 16) bs)
next-block at bs rest later block p e f l z =
    let whole : block ++ later ≡ drop at bs = sym f ∙ e in
    let front : take 16 (drop at bs) ≡ block = rw (← whole) (take_at block later 16 l) in
    let back : drop 16 (drop at bs) ≡ later = rw (← whole) (drop_at block later 16 l) in
    let long : at + 16 ≤ length bs = omega (arith, ap length whole, length-append block later, length-drop at bs) in
    (padding-more at 16 bs p long (rw front z), sym back ∙ drop-drop 16 at bs)

-- a byte that is not 00
abbrev other : ℕ → Bool
other b = not (b == 0)

no-other : (b : ℕ) → other b ≡ false → b ≡ 0
no-other b e = eqb-true b 0 (go (b == 0) e)
  where
    go : (t : Bool) → not t ≡ false → t ≡ true
    go true e = refl
    go false e = absurd (false≢true (sym e))

-- where the first of them lies; at the end where there is none
first-found : (bs : List ℕ) (n : ℕ) → length bs ≡ n → unwrap_or (position other bs) n ≡ position_or_len other bs
first-found bs n e = go (nat_lt (position_or_len other bs) (length bs)) refl
  where
    go : (t : Bool) → nat_lt (position_or_len other bs) (length bs) ≡ t → unwrap_or (cond t (Some (position_or_len other bs)) None) n ≡ position_or_len other bs
    go true t = refl
    go false t = omega (arith, prefix_len-le-length (λ b. not (other b)) bs, ltb-false (position_or_len other bs) (length bs) t)

pub to-other : (at : ℕ) (bs : List ℕ) (n : ℕ) → Padding at bs → n ≡ unwrap_or (position other (drop at bs)) (length bs - at) → Padding (at + n) bs
to-other at bs n p e =
    let is : n ≡ position_or_len other (drop at bs) = e ∙ first-found (drop at bs) (length bs - at) (length-drop at bs) in
    record {
      within = omega (arith, p.within, is, prefix_len-le-length (λ b. not (other b)) (drop at bs), length-drop at bs);
      zero = λ i l. ⊎_elim (p.zero i) (λ k. later i k l is) (lt-or-le i at);
    }
  where
    later : (i : ℕ) → at ≤ i → i < at + n → n ≡ position_or_len other (drop at bs) → get_or bs i 0 ≡ 0
    later i k l is =
        let j : at + (i - at) ≡ i = omega arith in
        let before : i - at < position_or_len other (drop at bs) = omega (arith, is) in
        let there : get_or (drop at bs) (i - at) 0 ≡ 0 = no-other _ (fails_before_first other (drop at bs) (i - at) 0 before) in
        rw j at (sym (get_or-drop at bs (i - at) 0) ∙ there)

-- ---- The joiner's loop

first-zero : (bs : List ℕ) → 1 ≤ length bs → get_or bs 0 0 ≡ 0 → read_frame bs ≡ result frame.Padding
unfolding read_frame
first-zero [] h e = absurd (omega arith)
first-zero (b ∷ bs) h e = rw e

runs_on : (n : ℕ) (bs : List ℕ) (at : ℕ) (placed : List Piece) → Running bs at placed → Padding n (drop at bs) → Running bs (at + n) placed
runs_on zero bs at placed i p = let e : at + 0 ≡ at = omega arith in rw e i
runs_on (suc n) bs at placed i p =
    let before : Running bs (at + n) placed = runs_on n bs at placed i (record { within = omega (arith, p.within); zero = λ j h. p.zero j (omega arith) }) in
    let e : at + n + 1 ≡ at + suc n = omega arith in
    let there : get_or (drop (at + n) bs) 0 0 ≡ 0 = at_front in
    let some : 1 ≤ length (drop (at + n) bs) = omega (arith, p.within, length-drop at bs, length-drop (at + n) bs) in
    rw e at (goes_on bs (at + n) placed before frame.Padding placed 1 (first-zero (drop (at + n) bs) some there) refl refl)
  where
    at_front : get_or (drop (at + n) bs) 0 0 ≡ 0
    at_front =
        let z : at + n + 0 ≡ at + n = omega arith in
        (get_or-drop (at + n) bs 0 0 ∙ rw z) ∙ (sym (get_or-drop at bs n 0) ∙ p.zero n (omega arith))

-- PADDING that is passed over together
pub passes_over : {frames out₀ marks₀ out marks : List ℕ} {at n e : ℕ} → Laying frames out₀ marks₀ out marks at e → Padding n (drop at frames)
    → Laying frames out₀ marks₀ out marks (at + n) e
passes_over {frames} {at = at} {n} i p =
    record {
      placed = i.placed;
      carries = i.carries;
      running = runs_on n frames at i.placed i.running p;
      ends = i.ends;
      long = i.long;
      wide = i.wide;
    }
