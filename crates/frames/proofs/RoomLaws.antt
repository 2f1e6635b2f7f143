-- What `join_onto` and its two readings promise, by what its code has tested and what `join_all` promises. Assumes nothing.
use Prim.Native.Nat.{ℕ, ◌≤◌, ◌<◌, ◌-◌}
use mathlib.Core.Path.{◌≡◌, refl, sym, ap}
use mathlib.Core.Bool.{true, false, false≢true}
use mathlib.Core.List.{List}
use native.Mathlib.Omega.{arith}
use lib.ListN.{length, replicate}
use lib.Dec.{leb}
use borrow.Author.Tests.{le-leb, lt-leb, leb-true}
use Rattle.wire.specs.Answer.{Answer, result, refused, told}
use Rattle.wire.proofs.AnswerLaws.{apart}
use Rattle.wire.proofs.SumLaws.{and_left, and_right}
use Rattle.std.specs.Prelude.{Result, Ok, Err, Some, None}
use Rattle.std.specs.Result.{is_err}
use Rattle.wire.specs.declared.Stop.{Stop}
use Rattle.wire.specs.declared.refusals.Refusal.TheVariants as no
use Rattle.frames.specs.Join.{limit, join, roomy, join_of, padded, out_after, marks_after, Joins}
use Rattle.frames.specs.Stops.{joiner_stops, StopsAt}
use Rattle.frames.specs.Buffers.{Joining, Walks}

-- ---- question 10

module _ (out marks : List ℕ) where
  pub short-output : length out < limit → false ≡ roomy out marks
  unfolding roomy
  short-output h = let l = lt-leb limit (length out) h in rw l

  pub by-marks : limit ≤ length out → leb limit (length marks) ≡ roomy out marks
  unfolding roomy
  by-marks h = let l = le-leb limit (length out) h in rw l

  pub within-room : roomy out marks ≡ true → (limit ≤ length out) × (limit ≤ length marks)
  unfolding roomy
  within-room r =
      let a = leb limit (length out) in
      let b = leb limit (length marks) in
      (leb-true limit (length out) (and_left a b r), leb-true limit (length marks) (and_right a b r))

-- ---- the answer

module _ {frames out marks : List ℕ} where
  pub no_room : roomy out marks ≡ false → Walks frames out marks (Err (record { refusal = no.BuffersTooShort; place = 0 })) out marks
  unfolding join_of joiner_stops out_after marks_after
  no_room r = record { is = rw r; stop = rw r; output = rw r; marked = rw r; bounds = omega arith }

  module _ (yes : roomy out marks ≡ true) where
    pub joined-whole : {e : ℕ} {out₁ marks₁ out' marks' : List ℕ} → length out₁ ≡ length out → length marks₁ ≡ length marks
        → Joining frames out₁ marks₁ (Ok e) out' marks' → Walks frames out marks (Ok e) out' marks'
    unfolding join_of joiner_stops out_after marks_after
    joined-whole {e} {out' = out'} {marks' = marks'} a b j = go (join frames) refl
      where
        go : (r : Answer (List ℕ)) → join frames ≡ r → Walks frames out marks (Ok e) out' marks'
        go (result s) q =
            record {
              is = rw yes j.is;
              stop = rw yes j.stop;
              output = rw (yes, q, ← a) (j.output s q);
              marked = rw (yes, q, ← b) (j.ones s q);
              bounds = j.bounds;
            }
        go (refused n) q = absurd (apart (sym (rw q at j.is)))

    pub joined-none : {s : Stop} {out₁ marks₁ out₂ marks₂ out' marks' : List ℕ} → Joining frames out₁ marks₁ (Err s) out₂ marks₂
        → length out₂ ≡ length out → length marks₂ ≡ length marks → out' ≡ replicate (length out₂) 0 → marks' ≡ replicate (length marks₂) 0
        → Walks frames out marks (Err s) out' marks'
    unfolding join_of joiner_stops out_after marks_after padded
    joined-none {s} {out' = out'} {marks' = marks'} j a b o m = go (join frames) refl
      where
        go : (r : Answer (List ℕ)) → join frames ≡ r → Walks frames out marks (Err s) out' marks'
        go (result l) q = absurd (apart (rw q at j.is))
        go (refused k) q =
            let zo : length out - 0 ≡ length out = omega arith in
            let zm : length marks - 0 ≡ length marks = omega arith in
            record {
              is = rw yes j.is;
              stop = rw yes j.stop;
              output = rw (yes, q, zo, ← a) o;
              marked = rw (yes, q, zm, ← b) m;
              bounds = j.bounds;
            }

    -- after the test of what was walked
    pub walked-ok : (r : Result ℕ Stop) {out₁ marks₁ out' marks' : List ℕ} → false ≡ is_err r → length out₁ ≡ length out → length marks₁ ≡ length marks
        → Joining frames out₁ marks₁ r out' marks' → Walks frames out marks r out' marks'
    walked-ok (Ok e) t a b j = joined-whole a b j
    walked-ok (Err s) t a b j = absurd (false≢true t)

    pub walked-err : (r : Result ℕ Stop) {out₁ marks₁ out₂ marks₂ out' marks' : List ℕ} → true ≡ is_err r → Joining frames out₁ marks₁ r out₂ marks₂
        → length out₂ ≡ length out → length marks₂ ≡ length marks → out' ≡ replicate (length out₂) 0 → marks' ≡ replicate (length marks₂) 0
        → Walks frames out marks r out' marks'
    walked-err (Ok e) t j a b o m = absurd (false≢true (sym t))
    walked-err (Err s) t j a b o m = joined-none j a b o m

-- ---- the two readings; what a joiner's answer tells is what it says in numbers, zeros at a refusal

module _ {frames out marks out' marks' : List ℕ} where
  pub joins-end : {e : ℕ} → Walks frames out marks (Ok e) out' marks' → Joins frames out marks (Ok e) out' marks'
  joins-end w = record { is = w.is; tells = ap (told 0) w.is; output = w.output; marked = w.marked; bounds = w.bounds }

  pub joins-refused : {s : Stop} → Walks frames out marks (Err s) out' marks' → Joins frames out marks (Err s.refusal) out' marks'
  joins-refused w = record { is = w.is; tells = ap (told 0) w.is; output = w.output; marked = w.marked; bounds = tt }

  pub stops_nowhere : {e : ℕ} → Walks frames out marks (Ok e) out' marks' → StopsAt frames out marks None out' marks'
  stops_nowhere w = record { is = w.stop; output = w.output; marked = w.marked; bounds = tt }

  pub stops_at : {s : Stop} → Walks frames out marks (Err s) out' marks' → StopsAt frames out marks (Some s) out' marks'
  stops_at w = record { is = w.stop; output = w.output; marked = w.marked; bounds = w.bounds }
