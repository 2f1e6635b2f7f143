-- What `place` promises, by what its code has tested and written. Assumes nothing.
use Prim.Native.Nat.{ℕ, ◌+◌, ◌≤◌, ◌<◌}
use mathlib.Core.Path.{◌≡◌, ◌∙◌}
use mathlib.Core.Bool.{true, false}
use mathlib.Core.List.{List, append-nil}
use native.Mathlib.Omega.{arith}
use lib.ListN.{length, drop, replicate, length-drop, length-replicate, drop_of_length-le}
use lib.Seq.{length-take-le}
use borrow.Author.Tests.{le-leb, lt-leb}
use borrow.Rule.Slice.PartMut.{mid_of, put_mid}
use Rattle.wire.specs.Front.{front, front_at}
use Rattle.frames.specs.Join.{limit}
use Rattle.frames.specs.Buffers.{agreeing, place_on, Placing}
use Rattle.std.specs.Prelude.{Ok, Err}
use Rattle.wire.specs.declared.refusals.Refusal.TheVariants as no

-- a part `&mut out[at..e]` that was lent, and came back with all of it written over
put_back : (at k : ℕ) (ys xs : List ℕ) → k ≡ length ys → put_mid at k xs ys ≡ front_at at ys xs
unfolding front front_at
put_back at k ys xs e = rw e

front-all : (ys xs : List ℕ) → length xs ≤ length ys → front ys xs ≡ ys
unfolding front
front-all ys xs h = rw (drop_of_length-le xs h, append-nil)

length-mid : (at k : ℕ) (xs : List ℕ) → at + k ≤ length xs → length (mid_of at k xs) ≡ k
length-mid at k xs h = length-take-le k (drop at xs) (omega (arith, length-drop at xs))

module _ {offset : ℕ} {piece out marks : List ℕ} where
  pub too_far : limit < offset + length piece → Placing offset piece out marks (Err no.FramePastLimit) out marks
  unfolding place_on
  too_far h =
      let e = lt-leb (offset + length piece) limit h in
      record { is = rw e; output = rw e; ones = rw e; bounds = tt }

  module _ (k : ℕ) (e : k ≡ length piece) (h : offset + length piece ≤ limit) where
    pub unlike : agreeing piece (mid_of offset k out) (mid_of offset k marks) ≡ false → Placing offset piece out marks (Err no.FramesDisagree) out marks
    unfolding place_on
    unlike a =
        let l = le-leb (offset + length piece) limit h in
        let b = rw e at a in
        record { is = rw (l, b); output = rw (l, b); ones = rw (l, b); bounds = tt }

    pub laid : agreeing piece (mid_of offset k out) (mid_of offset k marks) ≡ true → limit ≤ length out → limit ≤ length marks → (part ones : List ℕ)
        → part ≡ front piece (mid_of offset k out) → ones ≡ replicate (length (mid_of offset k marks)) 1
        → Placing offset piece out marks (Ok (offset + length piece)) (put_mid offset k out part) (put_mid offset k marks ones)
    unfolding place_on
    laid a ho hm part ones p q =
        let l = le-leb (offset + length piece) limit h in
        let b = rw e at a in
        let n = length piece in
        let all : part ≡ piece = p ∙ front-all piece (mid_of offset k out) (omega (arith, length-mid offset k out (omega arith))) in
        let o : ones ≡ replicate n 1 = rw (length-mid offset k marks (omega arith), e) at q in
        record {
          is = rw (l, b);
          output = rw (l, b, all) (put_back offset k piece out e);
          ones = rw (l, b, o) (put_back offset k (replicate n 1) marks (rw length-replicate e));
          bounds = h;
        }
