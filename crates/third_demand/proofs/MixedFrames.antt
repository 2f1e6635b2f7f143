-- Lists of frames that carry a hello, by laws: the same frames in reversed order with PADDING between; a frame more anywhere; two lists one
-- after the other; the same frames with their numbers in 8 bytes. And one list with all of these. Assumes nothing.
use Prim.Native.Nat.{ℕ, ◌≤◌}
use mathlib.Core.Path.{◌≡◌, refl, ap, ◌∙◌}
use mathlib.Core.Logic.{◌⊎◌, inl, inr, ⊎_elim}
use mathlib.Core.List.{List, [], ◌∷◌, ◌++◌, map, reverse, reverse_aux}
use native.Mathlib.Nat.{lt_of_lt_of_le}
use native.Mathlib.Omega.{arith}
use lib.ListN.{length}
use lib.Dec.{lit<}
use Rattle.varint.specs.Varint.{Holds}
use Rattle.varint.proofs.TableLaws.{ceiling-most}
use Rattle.frames.specs.Frame.{Piece, Frame, padding, ping, crypto, Whole, AllWhole, pieces}
use Rattle.frames.specs.Join.{limit}
use Rattle.frames.specs.Cut.{cut}
use Rattle.frames.specs.Lists.{Among, Within, PartOf, Carry}
use Rattle.frames.proofs.StreamLaws.{covered-within}
use Rattle.frames.proofs.PlaceLaws.{within-reverse, reverse-within}
use Rattle.frames.proofs.CutJoined.{cut-carries}

-- ---- The frames of such a list

-- reversed order, PADDING between
unfoldable pub between : List Frame → List Frame
between [] = []
between (f ∷ []) = f ∷ []
between (f ∷ g ∷ fs) = f ∷ padding ∷ between (g ∷ fs)

unfoldable pub backward : List Frame → List Frame
backward fs = between (reverse fs)

-- offset and length in 8 bytes, the width of class 3
unfoldable pub wide : Frame → Frame
wide padding = padding
wide ping = ping
wide (crypto o l p) = crypto 3 3 p

-- no data, at the hello's end; the offset in 4 bytes, the length in 2
abbrev pub empty_frame : List ℕ → Frame
empty_frame hello = crypto 2 1 (record { offset = length hello; bytes = [] })

-- "Repeats, overlap, empty frames, and offsets and lengths in longer varints are all in": the frames of c data bytes backward, PING, an empty
-- frame, frames of d data bytes, which overlap those of c, and the frames of c again
unfoldable pub mixed : ℕ → ℕ → List ℕ → List Frame
mixed c d hello = backward (cut c hello) ++ (ping ∷ empty_frame hello ∷ (map wide (cut d hello) ++ cut c hello))

-- ---- What two lists have to place

within_first : (fs gs : List Frame) → Within (pieces fs) (pieces (fs ++ gs))
unfolding pieces
within_first [] gs p a = absurd a
within_first (padding ∷ fs) gs p a = within_first fs gs p a
within_first (ping ∷ fs) gs p a = within_first fs gs p a
within_first (crypto o l q ∷ fs) gs p (inl e) = inl e
within_first (crypto o l q ∷ fs) gs p (inr a) = inr (within_first fs gs p a)

within-second : (fs gs : List Frame) → Within (pieces gs) (pieces (fs ++ gs))
unfolding pieces
within-second [] gs p a = a
within-second (padding ∷ fs) gs p a = within-second fs gs p a
within-second (ping ∷ fs) gs p a = within-second fs gs p a
within-second (crypto o l q ∷ fs) gs p a = inr (within-second fs gs p a)

in_either : (fs gs : List Frame) (p : Piece) → Among p (pieces (fs ++ gs)) → Among p (pieces fs) ⊎ Among p (pieces gs)
unfolding pieces
in_either [] gs p a = inr a
in_either (padding ∷ fs) gs p a = in_either fs gs p a
in_either (ping ∷ fs) gs p a = in_either fs gs p a
in_either (crypto o l q ∷ fs) gs p (inl e) = inl (inl e)
in_either (crypto o l q ∷ fs) gs p (inr a) = ⊎_elim (λ b. inl (inr b)) (λ b. inr b) (in_either fs gs p a)

-- ---- One law for all lists: whole frames with parts of the hello, among them those of frames that carry it

carries-too : (hello : List ℕ) (fs gs : List Frame) → Carry fs hello → AllWhole gs → ((p : Piece) → Among p (pieces gs) → PartOf hello p)
    → Within (pieces fs) (pieces gs) → Carry gs hello
carries-too hello fs gs c whole parts more =
    record { whole = whole; parts = parts; covers = λ i l. covered-within (pieces fs) (pieces gs) i more (c.covers i l) }

-- where all of them are those, as in another order, with PADDING and PING elsewhere, and in other widths
same-carry : (hello : List ℕ) (fs gs : List Frame) → Carry fs hello → AllWhole gs → Within (pieces gs) (pieces fs) → Within (pieces fs) (pieces gs)
    → Carry gs hello
same-carry hello fs gs c whole back forth = carries-too hello fs gs c whole (λ p a. c.parts p (back p a)) forth

-- ---- Reversed order, PADDING between

pieces-after : (f : Frame) (fs gs : List Frame) → pieces fs ≡ pieces gs → pieces (f ∷ fs) ≡ pieces (f ∷ gs)
unfolding pieces
pieces-after padding fs gs e = e
pieces-after ping fs gs e = e
pieces-after (crypto o l p) fs gs e = ap (λ (ps : List Piece). p ∷ ps) e

pieces-between : (fs : List Frame) → pieces (between fs) ≡ pieces fs
unfolding between pieces
pieces-between [] = refl
pieces-between (f ∷ []) = refl
pieces-between (f ∷ g ∷ fs) = pieces-after f (padding ∷ between (g ∷ fs)) (g ∷ fs) (pieces-between (g ∷ fs))

pieces-reverse : (fs done : List Frame) → pieces (reverse_aux fs done) ≡ reverse_aux (pieces fs) (pieces done)
unfolding pieces
pieces-reverse [] done = refl
pieces-reverse (padding ∷ fs) done = pieces-reverse fs (padding ∷ done)
pieces-reverse (ping ∷ fs) done = pieces-reverse fs (ping ∷ done)
pieces-reverse (crypto o l p ∷ fs) done = pieces-reverse fs (crypto o l p ∷ done)

pieces-backward : (fs : List Frame) → pieces (backward fs) ≡ reverse (pieces fs)
unfolding backward pieces
pieces-backward fs = pieces-between (reverse fs) ∙ pieces-reverse fs []

whole-reverse : (fs done : List Frame) → AllWhole fs → AllWhole done → AllWhole (reverse_aux fs done)
whole-reverse [] done w v = v
whole-reverse (f ∷ fs) done w v = whole-reverse fs (f ∷ done) w.1 (w.0, v)

whole-between : (fs : List Frame) → AllWhole fs → AllWhole (between fs)
unfolding between
whole-between [] w = tt
whole-between (f ∷ []) w = w
whole-between (f ∷ g ∷ fs) w = (w.0, (tt, whole-between (g ∷ fs) w.1))

pub backward-carries : (hello : List ℕ) (fs : List Frame) → Carry fs hello → Carry (backward fs) hello
unfolding backward
backward-carries hello fs c =
    let turned = pieces-backward fs in
    same-carry hello fs (backward fs) c (whole-between (reverse fs) (whole-reverse fs [] c.whole tt)) (rw turned (reverse-within (pieces fs)))
    (rw turned (within-reverse (pieces fs)))

-- ---- Longer varints

holds-widest : (c v : ℕ) → Holds c v → Holds 3 v
holds-widest c v h = record { known = lit< tt; below = lt_of_lt_of_le h.below (ceiling-most c h.known) }

whole_wide : (fs : List Frame) → AllWhole fs → AllWhole (map wide fs)
unfolding wide
whole_wide [] w = tt
whole_wide (padding ∷ fs) w = (tt, whole_wide fs w.1)
whole_wide (ping ∷ fs) w = (tt, whole_wide fs w.1)
whole_wide (crypto o l p ∷ fs) w =
    ((holds-widest o p.offset w.0.0, holds-widest l (length p.bytes) w.0.1), whole_wide fs w.1)

pieces-wide : (fs : List Frame) → pieces (map wide fs) ≡ pieces fs
unfolding wide pieces
pieces-wide [] = refl
pieces-wide (padding ∷ fs) = pieces-wide fs
pieces-wide (ping ∷ fs) = pieces-wide fs
pieces-wide (crypto o l p ∷ fs) = ap (λ (ps : List Piece). p ∷ ps) (pieces-wide fs)

pub wide-carries : (hello : List ℕ) (fs : List Frame) → Carry fs hello → Carry (map wide fs) hello
wide-carries hello fs c =
    let same = pieces-wide fs in
    same-carry hello fs (map wide fs) c (whole_wide fs c.whole) (rw same (λ p a. a)) (rw same (λ p a. a))

-- ---- Two lists one after the other, and a frame more

module _ (hello : List ℕ) (fs gs : List Frame) where
  whole_append : (ds : List Frame) → AllWhole ds → AllWhole gs → AllWhole (ds ++ gs)
  whole_append [] w v = v
  whole_append (f ∷ ds) w v = (w.0, whole_append ds w.1 v)

  pub both-carry : Carry fs hello → Carry gs hello → Carry (fs ++ gs) hello
  both-carry c d =
      carries-too hello fs (fs ++ gs) c (whole_append fs c.whole d.whole)
      (λ p a. ⊎_elim (λ b. c.parts p b) (λ b. d.parts p b) (in_either fs gs p a)) (within_first fs gs)

  module _ (f : Frame) where
    whole-added : (ds : List Frame) → Whole f → AllWhole (ds ++ gs) → AllWhole (ds ++ (f ∷ gs))
    whole-added [] w v = (w, v)
    whole-added (e ∷ ds) w v = (v.0, whole-added ds w v.1)

    -- ANY WHOLE FRAME THAT AGREES WITH THE HELLO AND ENDS WITHIN IT MAY STAND ANYWHERE: a repeat, one that overlaps others, an empty one;
    -- PADDING and PING have nothing to agree with
    pub added-carries : Whole f → ((p : Piece) → Among p (pieces (f ∷ [])) → PartOf hello p) → Carry (fs ++ gs) hello
        → Carry (fs ++ (f ∷ gs)) hello
    added-carries w part c =
        carries-too hello (fs ++ gs) (fs ++ (f ∷ gs)) c (whole-added fs w c.whole)
        (λ p a.
        ⊎_elim
        (λ b. c.parts p (within_first fs gs p b))
        (λ b. ⊎_elim (λ here. part p here) (λ after. c.parts p (within-second fs gs p after)) (in_either (f ∷ []) gs p b))
        (in_either fs (f ∷ gs) p a))
        (λ p a.
        ⊎_elim
        (λ b. within_first fs (f ∷ gs) p b)
        (λ b. within-second fs (f ∷ gs) p (within-second (f ∷ []) gs p b))
        (in_either fs gs p a))

-- ---- The list

module _ (c d : ℕ) (hello : List ℕ) (some : 1 ≤ c) (some-too : 1 ≤ d) (short : length hello ≤ limit) where
  empty-part : (p : Piece) → Among p (pieces (empty_frame hello ∷ [])) → PartOf hello p
  unfolding pieces
  empty-part p (inl e) = rw e (record { within = omega arith; agrees = λ j h. absurd (omega arith) })
  empty-part p (inr a) = absurd a

  empty-whole : Whole (empty_frame hello)
  empty-whole = (record { known = lit< tt; below = omega arith }, record { known = lit< tt; below = lit< tt })

  pub mixed-carries : Carry (mixed c d hello) hello
  unfolding mixed pieces
  mixed-carries =
      let first = backward (cut c hello) in
      let last = map wide (cut d hello) ++ cut c hello in
      let by-c = cut-carries c hello some short in
      let by-d = cut-carries d hello some-too short in
      let data-frames = both-carry hello first last (backward-carries hello (cut c hello) by-c)
      (both-carry hello (map wide (cut d hello)) (cut c hello) (wide-carries hello (cut d hello) by-d) by-c) in
      let with-empty = added-carries hello first last (empty_frame hello) empty-whole empty-part data-frames in
      added-carries hello first (empty_frame hello ∷ last) ping tt (λ p a. absurd a) with-empty
