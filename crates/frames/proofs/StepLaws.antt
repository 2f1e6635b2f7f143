-- What `join_frame` promises: a piece that the buffers take is placed among the pieces that they carry. Assumes nothing.
use Prim.Native.Nat.{ℕ, ◌+◌, ◌≤◌, max}
use mathlib.Core.Path.{◌≡◌, refl, sym, ap, ◌∙◌}
use mathlib.Core.Bool.{Bool, true, false}
use mathlib.Core.List.{List, [], ◌∷◌}
use native.Mathlib.Omega.{arith}
use lib.ListN.{length, take, drop, replicate}
use lib.Dec.{leb, lit≤}
use borrow.Author.Tests.{leb-true}
use Rattle.wire.specs.Answer.{Answer, result, ask, and_then}
use Rattle.wire.specs.Front.{front_at}
use Rattle.frames.specs.Frame.{Piece, end}
use Rattle.frames.specs.Read.{read_frame, extent, piece_in, FrameFound}
use Rattle.frames.specs.Stream.{held, end_of, values, agrees}
use Rattle.frames.specs.Join.{limit, place, place_frame}
use Rattle.frames.specs.Buffers.{mark, Carries, agreeing, place_on, Placing, unread, unlaid, Stepping}
use Rattle.frames.specs.declared.reading.CryptoFrame.{CryptoFrame}
use Rattle.frames.specs.declared.reading.Frame.{Frame}
use Rattle.frames.specs.declared.reading.Frame.TheVariants as frame
use Rattle.std.specs.Prelude.{Ok, Err}
use Rattle.wire.specs.declared.refusals.Refusal.{Refusal}
use Rattle.wire.proofs.AnswerLaws.{apart, same-result}
use Rattle.frames.proofs.EachLaws.{length-values}
use Rattle.frames.proofs.CarryLaws.{bytes-laid, ones-laid, agreeing-as}

-- ---- a piece

asked : (a b : Bool) (e v : ℕ) → result e ≡ ask a 13 (ask b 14 (result v)) → e ≡ v
asked true true e v h = same-result e v h
asked true false e v h = absurd (apart (sym h))
asked false b e v h = absurd (apart (sym h))

end-placed : (offset : ℕ) (piece out marks : List ℕ) (e : ℕ) → result e ≡ place_on offset piece out marks → e ≡ offset + length piece
unfolding place_on
end-placed offset piece out marks e h =
    let n = length piece in
    asked (leb (offset + n) limit) (agreeing piece (take n (drop offset out)) (take n (drop offset marks))) e (offset + n) h

as_long : (l : List ℕ) (f : ℕ → ℕ) (n : ℕ) → l ≡ values f 0 n → l ≡ values f 0 (length l)
as_long l f n e = e ∙ ap (values f 0) (sym (ap length e ∙ length-values f 0 n))

module _
    (placed : List Piece) (p : Piece) (out marks : List ℕ) (e : ℕ) (c : Carries placed out marks e) (ho : limit ≤ length out) (hm : limit ≤ length marks)
  where
    -- what is asked of the buffers is what is asked of the pieces that they carry
    place-on : place p placed ≡ and_then (place_on p.offset p.bytes out marks) (λ n. result (p ∷ placed))
    unfolding place place_on
    place-on = go (leb (end p) limit) refl
      where
        n : ℕ
        n = length p.bytes

        asks : Bool → Answer ℕ
        asks b = ask b 13 (ask (agreeing p.bytes (take n (drop p.offset out)) (take n (drop p.offset marks))) 14 (result (end p)))

        yes : (b : Bool) → ask b 14 (result (p ∷ placed)) ≡ and_then (ask b 14 (result (end p))) (λ n. result (p ∷ placed))
        yes true = refl
        yes false = refl

        go : (b : Bool) → leb (end p) limit ≡ b → ask b 13 (ask (agrees placed p) 14 (result (p ∷ placed))) ≡ and_then (asks b) (λ n. result (p ∷ placed))
        go false t = refl
        go true t =
            let h : end p ≤ limit = leb-true (end p) limit t in
            rw (agreeing-as placed p out marks e c (omega arith) (omega arith)) (yes (agrees placed p))

    carries-more : (n l : ℕ) (out' marks' : List ℕ) → Placing p.offset p.bytes out marks (Ok n) out' marks' → l ≡ max e n
        → Carries (p ∷ placed) out' marks' l
    unfolding end_of
    carries-more n l out' marks' r m =
        let q : n ≡ end p = end-placed p.offset p.bytes out marks n r.is in
        let h : end p ≤ limit = rw q at r.bounds in
        let o : out' ≡ front_at p.offset p.bytes out = rw (← r.is) at r.output in
        let t : marks' ≡ front_at p.offset (replicate (length p.bytes) 1) marks = rw (← r.is) at r.ones in
        record {
          bytes = as_long out' (held (p ∷ placed)) (length out) (o ∙ bytes-laid placed p out marks e c (omega arith) (omega arith));
          ones = as_long marks' (mark (p ∷ placed)) (length marks) (t ∙ ones-laid placed p out marks e c (omega arith) (omega arith));
          ends = m ∙ rw (q, c.ends) (omega arith);
        }

-- ---- a frame

some_bytes : (bs : List ℕ) (f : Frame) → result f ≡ read_frame bs → 1 ≤ length bs
unfolding read_frame
some_bytes [] f e = absurd (apart (sym e))
some_bytes (b ∷ bs) f e = omega arith

module _ {bs out marks : List ℕ} {e : ℕ} (he : e ≤ limit) where
  -- a frame of one byte that has nothing to place
  step_past : (f : Frame) → result f ≡ read_frame bs → 1 ≡ extent f → ((placed : List Piece) → place_frame bs f placed ≡ result placed)
      → Stepping bs out marks e (Ok (record { used = 1; end = e })) out marks
  step_past f r w l =
      record {
        is = λ placed c. record { shape = f; more = placed; read = sym r; laid = l placed; width = w; carries = c };
        bounds = (lit≤ tt, some_bytes bs f r, he);
      }

  pub step-padding : FrameFound bs (Ok frame.Padding) → Stepping bs out marks e (Ok (record { used = 1; end = e })) out marks
  step-padding f = step_past frame.Padding f.is refl (λ placed. refl)

  pub step-ping : FrameFound bs (Ok frame.Ping) → Stepping bs out marks e (Ok (record { used = 1; end = e })) out marks
  step-ping f = step_past frame.Ping f.is refl (λ placed. refl)

  pub step-unread : {k : Refusal} → FrameFound bs (Err k) → Stepping bs out marks e (Err k) out marks
  step-unread f = record { is = λ placed c. unread (sym f.is); bounds = tt }

  module _
      {c : CryptoFrame} {out' marks' : List ℕ} (f : FrameFound bs (Ok (frame.Crypto c))) (ho : limit ≤ length out) (hm : limit ≤ length marks)
    where
      pub step-placed : {n l : ℕ} → Placing c.offset (piece_in bs c).bytes out marks (Ok n) out' marks' → l ≡ max e n
          → Stepping bs out marks e (Ok (record { used = c.end; end = l })) out' marks'
      step-placed {n} {l} r m =
          record {
            is = λ placed k.
                record {
                  shape = frame.Crypto c;
                  more = piece_in bs c ∷ placed;
                  read = sym f.is;
                  laid = place-on placed (piece_in bs c) out marks e k ho hm ∙ rw (← r.is);
                  width = refl;
                  carries = carries-more placed (piece_in bs c) out marks e k ho hm n l out' marks' r m;
                };
            bounds = (omega (arith, f.bounds), f.bounds.2, omega (arith, r.bounds));
          }

      pub step-unlaid : {k : Refusal} → Placing c.offset (piece_in bs c).bytes out marks (Err k) out' marks'
          → Stepping bs out marks e (Err k) out' marks'
      step-unlaid r =
          record {
            is = λ placed k. unlaid (frame.Crypto c) (sym f.is) (place-on placed (piece_in bs c) out marks e k ho hm ∙ rw (← r.is));
            bounds = r.bounds;
          }
