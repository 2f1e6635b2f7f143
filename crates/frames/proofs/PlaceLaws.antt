-- Pieces are joined exactly where each ends at the limit or before, any two agree and no gap is left; and to which stream. Assumes nothing.
use Prim.Native.Nat.{ℕ, ◌≤◌, ◌<◌}
use mathlib.Core.Path.{◌≡◌, refl, sym, ◌∙◌}
use mathlib.Core.Bool.{true}
use mathlib.Core.Logic.{◌↔◌, ◌⊎◌, inl, inr, ⊎_elim}
use mathlib.Core.List.{List, [], ◌∷◌, reverse_aux, reverse}
use lib.Seq.{ext_get_or}
use lib.Dec.{leb}
use borrow.Author.Tests.{leb-true, le-leb}
use Rattle.wire.specs.Answer.{Answer, result, ask, and_then}
use Rattle.wire.proofs.AnswerLaws.{same-result, ask-yes, and_then-result}
use Rattle.frames.specs.Frame.{Piece, end}
use Rattle.frames.specs.Stream.{byte_at, held, end_of, agrees, gapless, stream}
use Rattle.frames.specs.Join.{limit, place, close}
use Rattle.frames.specs.Lists.{LiesIn, Among, Covered, StreamOf, Within}
use Rattle.frames.proofs.FrameLists.{place_pieces}
use Rattle.frames.proofs.StreamLaws.{filled-held, covered-filled, covered-below, covered-within, end_of-same, agrees_at_lem, agrees-all, gapless-at, gapless-all, length-stream, get_or-stream}

-- ---- the order put aside: reverse_aux ps placed has the pieces of both

among-placed : (p : Piece) (ps placed : List Piece) → Among p placed → Among p (reverse_aux ps placed)
among-placed p [] placed a = a
among-placed p (q ∷ qs) placed a = among-placed p qs (q ∷ placed) (inr a)

among-either : (p : Piece) (ps placed : List Piece) → Among p (reverse_aux ps placed) → Among p ps ⊎ Among p placed
among-either p [] placed a = inr a
among-either p (q ∷ qs) placed a =
    ⊎_elim (λ b. inl (inr b)) (⊎_elim (λ e. inl (inl e)) (λ b. inr b)) (among-either p qs (q ∷ placed) a)

among-onto : (p : Piece) (ps placed : List Piece) → Among p ps → Among p (reverse_aux ps placed)
among-onto p [] placed a = absurd a
among-onto p (q ∷ qs) placed (inl e) = among-placed p qs (q ∷ placed) (inl e)
among-onto p (q ∷ qs) placed (inr a) = among-onto p qs (q ∷ placed) a

pub within-reverse : (ps : List Piece) → Within ps (reverse ps)
within-reverse ps p a = among-onto p ps [] a

pub reverse-within : (ps : List Piece) → Within (reverse ps) ps
reverse-within ps p a = ⊎_elim (λ b. b) (λ b. absurd b) (among-either p ps [] a)

-- ---- placing

-- each piece ends at the limit or before, and any two agree wherever both have a byte
pub record Fit (ps : List Piece) : Type 0 where
  pub ends : (p : Piece) → Among p ps → end p ≤ limit
  pub agree : (p q : Piece) → Among p ps → Among q ps → (i : ℕ) → LiesIn i p → LiesIn i q → byte_at p i ≡ byte_at q i

pub fit-within : (ps qs : List Piece) → Within ps qs → Fit qs → Fit ps
fit-within ps qs w f = record { ends = λ p a. f.ends p (w p a); agree = λ p q a b i l m. f.agree p q (w p a) (w q b) i l m }

fit_none : Fit []
fit_none = record { ends = λ p a. absurd a; agree = λ p q a b i l m. absurd a }

-- what a place of pieces that fit holds is the byte of any of them that has it
pub held-fit : (ps : List Piece) (p : Piece) (i : ℕ) → Fit ps → Among p ps → LiesIn i p → held ps i ≡ byte_at p i
held-fit ps p i f a l =
    let h = filled-held ps i (covered-filled ps i (record { by = p; among = a; lies = l })) in
    let c = h.covered in
    h.byte ∙ f.agree c.by p c.among a i c.lies l

-- one piece more fits exactly where it is placed
fit-agrees : (p : Piece) (placed : List Piece) → Fit (p ∷ placed) → agrees placed p ≡ true
fit-agrees p placed f =
    agrees-all placed p
    (λ i l e.
    let h = filled-held placed i e in
    let c = h.covered in
    h.byte ∙ f.agree c.by p (inr c.among) (inl refl) i c.lies l)

fit-more : (p : Piece) (placed : List Piece) → Fit placed → end p ≤ limit → agrees placed p ≡ true → Fit (p ∷ placed)
fit-more p placed f h e = record { ends = ends; agree = agree }
  where
    old : (q : Piece) → Among q placed → (i : ℕ) → LiesIn i p → LiesIn i q → byte_at p i ≡ byte_at q i
    old q a i l m =
        sym (agrees_at_lem placed p i e l (covered-filled placed i (record { by = q; among = a; lies = m }))) ∙ held-fit placed q i f a m

    ends : (q : Piece) → Among q (p ∷ placed) → end q ≤ limit
    ends q (inl z) = rw z h
    ends q (inr a) = f.ends q a

    agree : (q r : Piece) → Among q (p ∷ placed) → Among r (p ∷ placed) → (i : ℕ) → LiesIn i q → LiesIn i r → byte_at q i ≡ byte_at r i
    agree q r (inl z) (inl y) i l m = rw (z, y)
    agree q r (inl z) (inr b) i l m = rw z (old r b i (rw z at l) m)
    agree q r (inr a) (inl y) i l m = rw y (sym (old q a i (rw y at m) l))
    agree q r (inr a) (inr b) i l m = f.agree q r a b i l m

place-fit : (p : Piece) (placed : List Piece) → Fit (p ∷ placed) → place p placed ≡ result (p ∷ placed)
unfolding place
place-fit p placed f = rw (le-leb (end p) limit (f.ends p (inl refl)), fit-agrees p placed f)

placed-fit : (p : Piece) (placed more : List Piece) → Fit placed → place p placed ≡ result more → Fit (p ∷ placed)
unfolding place
placed-fit p placed more f e =
    let a = ask-yes (leb (end p) limit) 13 (ask (agrees placed p) 14 (result (p ∷ placed))) more e in
    let b = ask-yes (agrees placed p) 14 (result (p ∷ placed)) more a.1 in
    fit-more p placed f (leb-true (end p) limit a.0) b.0

fit-placed : (ps placed : List Piece) → Fit (reverse_aux ps placed) → place_pieces ps placed ≡ result (reverse_aux ps placed)
unfolding place_pieces
fit-placed [] placed f = refl
fit-placed (p ∷ ps) placed f =
    let here : Fit (p ∷ placed) = fit-within (p ∷ placed) (reverse_aux ps (p ∷ placed)) (λ q a. among-placed q ps (p ∷ placed) a) f in
    rw (place-fit p placed here) (fit-placed ps (p ∷ placed) f)

placed-all : (ps placed all : List Piece) → Fit placed → place_pieces ps placed ≡ result all → (all ≡ reverse_aux ps placed) × Fit all
unfolding place_pieces
placed-all [] placed all f e = let z : placed ≡ all = same-result placed all e in (sym z, rw z at f)
placed-all (p ∷ ps) placed all f e =
    let s = and_then-result (place p placed) (λ more. place_pieces ps more) all e in
    let here : Fit (p ∷ placed) = placed-fit p placed s.value f s.is in
    placed-all ps (p ∷ placed) all here (rw (place-fit p placed here) at e)

fit_reverse : (ps : List Piece) → Fit ps → Fit (reverse ps)
fit_reverse ps f = fit-within (reverse ps) ps (reverse-within ps) f

-- PIECES ARE PLACED EXACTLY WHERE THEY FIT, the last one first
pub placed-exactly : (ps all : List Piece) → place_pieces ps [] ≡ result all ↔ ((all ≡ reverse ps) × Fit ps)
placed-exactly ps all = (
  (λ e. let a = placed-all ps [] all fit_none e in (a.0, fit-within ps (reverse ps) (within-reverse ps) (rw a.0 at a.1))),
  (λ a. rw a.0 (fit-placed ps [] (fit_reverse ps a.1))),
)

-- ---- joining

abbrev pub join_pieces : List Piece → Answer (List ℕ)
join_pieces ps = and_then (place_pieces ps []) close

pub record Joinable (ps : List Piece) : Type 0 where
  pub fit : Fit ps
  pub gapless : (i : ℕ) → i < end_of ps → Covered ps i

-- where there is no gap there is one such stream
pub stream-unique : (ps : List Piece) (s t : List ℕ) → Joinable ps → StreamOf ps s → StreamOf ps t → s ≡ t
stream-unique ps s t j a b =
    ext_get_or 0 s t (a.long ∙ sym b.long)
    (λ i h.
    let c = j.gapless i (rw a.long at h) in
    a.byte c.by c.among i c.lies ∙ sym (b.byte c.by c.among i c.lies))

end_of-reverse : (ps : List Piece) → end_of (reverse ps) ≡ end_of ps
end_of-reverse ps = end_of-same (reverse ps) ps (reverse-within ps) (within-reverse ps)

pub stream-reverse : (ps : List Piece) → Fit ps → StreamOf ps (stream (reverse ps))
stream-reverse ps f =
    record {
      long = length-stream (reverse ps) ∙ end_of-reverse ps;
      byte = λ p a i l.
          let b = within-reverse ps p a in
          get_or-stream (reverse ps) i (covered-below (reverse ps) i (record { by = p; among = b; lies = l }))
          ∙ held-fit (reverse ps) p i (fit_reverse ps f) b l;
    }

reverse-gapless : (ps : List Piece) → ((i : ℕ) → i < end_of ps → Covered ps i) → gapless (reverse ps) ≡ true
reverse-gapless ps g =
    gapless-all (reverse ps) (λ i h. covered-within ps (reverse ps) i (within-reverse ps) (g i (rw (end_of-reverse ps) at h)))

pub pieces-joined : (ps : List Piece) (s : List ℕ) → Joinable ps → StreamOf ps s → join_pieces ps ≡ result s
unfolding close
pieces-joined ps s j d =
    let same : stream (reverse ps) ≡ s = stream-unique ps (stream (reverse ps)) s j (stream-reverse ps j.fit) d in
    rw ((placed-exactly ps (reverse ps)).1 (refl, j.fit), reverse-gapless ps j.gapless, same)

pub record JoinedPieces (ps : List Piece) (s : List ℕ) : Type 0 where
  pub joinable : Joinable ps
  pub stream : StreamOf ps s

closed : (all : List Piece) (s : List ℕ) → close all ≡ result s → (gapless all ≡ true) × (s ≡ stream all)
unfolding close
closed all s e = let a = ask-yes (gapless all) 15 (result (stream all)) s e in (a.0, sym (same-result (stream all) s a.1))

pub joined-pieces : (ps : List Piece) (s : List ℕ) → join_pieces ps ≡ result s → JoinedPieces ps s
joined-pieces ps s e =
    let f = and_then-result (place_pieces ps []) close s e in
    let a = (placed-exactly ps f.value).0 f.is in
    let c = closed (reverse ps) s (rw a.0 at f.after) in
    record {
      joinable = record {
        fit = a.1;
        gapless = λ i h. covered-within (reverse ps) ps i (reverse-within ps) (gapless-at (reverse ps) i c.0 (rw (end_of-reverse ps) h));
      };
      stream = rw c.1 (stream-reverse ps a.1);
    }

-- neither the order of the pieces nor how often one comes changes the stream
pub joined_same : (ps qs : List Piece) (s : List ℕ) → Within ps qs → Within qs ps → join_pieces ps ≡ result s → join_pieces qs ≡ result s
joined_same ps qs s w v e =
    let j = joined-pieces ps s e in
    let same : end_of qs ≡ end_of ps = end_of-same qs ps v w in
    pieces-joined qs s
    (record {
      fit = fit-within qs ps v j.joinable.fit;
      gapless = λ i h. covered-within ps qs i w (j.joinable.gapless i (rw same at h));
    })
    (record { long = j.stream.long ∙ sym same; byte = λ p a i l. j.stream.byte p (v p a) i l })
