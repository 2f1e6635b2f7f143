-- Lists that are written over zeros, each in its place. Assumes nothing.
use Prim.Native.Nat.{ℕ, zero, suc, ◌+◌, ◌-◌, ◌≤◌}
use mathlib.Core.Path.{◌≡◌, refl, sym, ap, ◌∙◌}
use mathlib.Core.List.{List, [], ◌++◌, append_assoc, append-nil}
use native.Mathlib.Omega.{arith}
use native.Mathlib.Nat.{sub-zero}
use lib.ListN.{length, drop, replicate, length-append, length-drop, length-replicate, replicate-append-replicate}
use lib.Seq.{drop-append-le, drop-append-add, drop_at}
use Rattle.wire.specs.Front.{front, Put}
use Rattle.wire.proofs.FrontLaws.{lent-front}
use Rattle.wire.proofs.Writing.{lent_from, back_from, filled}
use Rattle.fingerprint_lists.specs.Arrays.{span, padded}
use Rattle.fingerprint_lists.specs.declared.Span.{Span}
use Rattle.fingerprint_layout.specs.Layout.{littles, ranges}
use Rattle.fingerprint_layout.specs.Code.{zeros}
use Rattle.fingerprint_layout.proofs.PieceLaws.{length-littles}
use Rattle.fingerprint_layout.proofs.PadLaws.{length-padded, words-padded, length-ranges, ranges-padded}

-- a second write over the front, which reaches no further than the first
pub front-front : (ys zs xs : List ℕ) → length ys ≤ length zs → front ys (front zs xs) ≡ front (ys ++ drop (length ys) zs) xs
unfolding front
front-front ys zs xs h =
    let long : length (ys ++ drop (length ys) zs) ≡ length zs = simp (length-append, length-drop) (omega arith) in
    rw (long, drop-append-le (length ys) zs (drop (length zs) xs) h, append_assoc)

-- ---- zeros

drop-replicate : (k m : ℕ) → drop {A = ℕ} k (replicate m 0) ≡ replicate (m - k) 0
drop-replicate zero m = ap (λ (n : ℕ). replicate {A = ℕ} n 0) (sym (sub-zero m))
drop-replicate (suc k) zero =
    let e : 0 ≡ 0 - suc k = omega arith in
    ap (λ (n : ℕ). replicate {A = ℕ} n 0) e
drop-replicate (suc k) (suc m) =
    let e : m - k ≡ suc m - suc k = omega arith in
    drop-replicate k m ∙ ap (λ (n : ℕ). replicate {A = ℕ} n 0) e

drop-zeros : (k m : ℕ) → drop k (zeros m) ≡ zeros (m - k)
unfolding zeros
drop-zeros k m = drop-replicate k m

zeros-split : (k m : ℕ) → k ≤ m → zeros m ≡ zeros k ++ zeros (m - k)
unfolding zeros
zeros-split k m h =
    let e : k + (m - k) ≡ m = omega arith in
    sym (replicate-append-replicate k (m - k) 0 ∙ ap (λ (n : ℕ). replicate {A = ℕ} n 0) e)

length-zeros : (m : ℕ) → length (zeros m) ≡ m
unfolding zeros
length-zeros m = length-replicate m 0

-- ---- what stands, and zeros after it

pub record Over (done : List ℕ) (n m : ℕ) (old out : List ℕ) : Type 0 where
  pub long : length done ≡ n
  pub is : out ≡ front (done ++ zeros m) old

pub over-start : {m : ℕ} {old out : List ℕ} → out ≡ front (zeros m) old → Over [] 0 m old out
over-start e = record { long = refl; is = e }

pub over-end : {done old out : List ℕ} {n : ℕ} → Over done n 0 old out → Put done n old out
unfolding zeros
over-end {done} {old} o = filled o.long (o.is ∙ ap (λ (l : List ℕ). front l old) (append-nil done))

module _ {done old out : List ℕ} {n m : ℕ} (o : Over done n m old out) where
  stands : out ≡ front done out
  stands =
      let whole = done ++ zeros m in
      let q = front-front done whole old (omega (arith, length-append done (zeros m))) in
      sym (rw o.is (q ∙ ap (λ (l : List ℕ). front (done ++ l) old) (drop_at done (zeros m) (length done) refl)))

  -- a list in a place of w bytes
  module _ (piece : List ℕ) (w : ℕ) (short : length piece ≤ w) (fits : w ≤ m) where
    zeros-after : zeros (m - length piece) ≡ zeros (w - length piece) ++ zeros (m - w)
    zeros-after =
        let e : m - length piece - (w - length piece) ≡ m - w = omega arith in
        zeros-split (w - length piece) (m - length piece) (omega arith) ∙ ap (λ (k : ℕ). zeros (w - length piece) ++ zeros k) e

    dropped : drop (length (done ++ piece)) (done ++ zeros m) ≡ zeros (m - length piece)
    dropped = rw (length-append done piece) (drop-append-add done (zeros m) (length piece) ∙ drop-zeros (length piece) m)

    whole_is : (done ++ piece) ++ zeros (m - length piece) ≡ (done ++ padded w 0 piece) ++ zeros (m - w)
    unfolding padded zeros
    whole_is = rw zeros-after (simp append_assoc)

    written : front (done ++ piece) out ≡ front ((done ++ padded w 0 piece) ++ zeros (m - w)) old
    written =
        let long : length (done ++ piece) ≤ length (done ++ zeros m) = simp length-append (omega (arith, length-zeros m)) in
        rw o.is (front-front (done ++ piece) (done ++ zeros m) old long ∙ ap (λ (l : List ℕ). front l old) (ap (λ (l : List ℕ). (done ++ piece) ++ l) dropped ∙ whole_is))

    pub over-next : {part : List ℕ} → part ≡ front piece (lent_from n out) → Over (done ++ padded w 0 piece) (n + w) (m - w) old (back_from n out part)
    over-next {part} e = record {
      long = omega (arith, length-append done (padded w 0 piece), length-padded w 0 piece short, o.long);
      is = lent-front done piece out out part n (length out - n) o.long stands refl e ∙ written;
    }

-- the first, which was written to the output itself
pub over_first : {old out new : List ℕ} {m : ℕ} (piece : List ℕ) (w : ℕ) → length piece ≤ w → w ≤ m → out ≡ front (zeros m) old → new ≡ front piece out
    → Over (padded w 0 piece) w (m - w) old new
over_first piece w short fits c e = record { long = length-padded w 0 piece short; is = e ∙ written (over-start c) piece w short fits }

-- ---- a list of 16-bit numbers in a place of 128 bytes, and one of ranges in a place of 64

pub over-as : {done other old out : List ℕ} {n m : ℕ} → done ≡ other → Over done n m old out → Over other n m old out
over-as e o = rw e at o

pub words-first : (vs old : List ℕ) {out new : List ℕ} {m : ℕ} → length vs ≤ 64 → 128 ≤ m → out ≡ front (zeros m) old → new ≡ front (littles 2 vs) out
    → Over (littles 2 (padded 64 0 vs)) 128 (m - 128) old new
words-first vs old few fits c e = over-as (words-padded 64 vs) (over_first (littles 2 vs) 128 (omega (arith, length-littles 2 vs)) fits c e)

module _ {done old out : List ℕ} {n m : ℕ} (o : Over done n m old out) where
  pub words-next : (vs : List ℕ) {part : List ℕ} → length vs ≤ 64 → 128 ≤ m → part ≡ front (littles 2 vs) (lent_from n out)
      → Over (done ++ littles 2 (padded 64 0 vs)) (n + 128) (m - 128) old (back_from n out part)
  words-next vs few fits e =
      over-as (ap (λ (l : List ℕ). done ++ l) (words-padded 64 vs)) (over-next o (littles 2 vs) 128 (omega (arith, length-littles 2 vs)) fits e)

  pub ranges-next : (ss : List Span) {part : List ℕ} → length ss ≤ 16 → 64 ≤ m → part ≡ front (littles 2 (ranges ss)) (lent_from n out)
      → Over (done ++ littles 2 (ranges (padded 16 (span 0 0) ss))) (n + 64) (m - 64) old (back_from n out part)
  ranges-next ss few fits e =
      over-as (ap (λ (l : List ℕ). done ++ l) (words-padded 32 (ranges ss) ∙ ap (λ (l : List ℕ). littles 2 l) (ranges-padded 16 ss)))
      (over-next o (littles 2 (ranges ss)) 64 (omega (arith, length-littles 2 (ranges ss), length-ranges ss)) fits e)
