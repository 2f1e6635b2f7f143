-- The frame writer: how long frames are, what is left to be cut at a turn of its loops, and its answers. Assumes nothing.
use Prim.Native.Nat.{ℕ, zero, suc, zero-le, ◌+◌, ◌-◌, ◌*◌, ◌≤◌, ◌<◌, min}
use mathlib.Core.Path.{◌≡◌, refl, sym, ap, ◌∙◌}
use mathlib.Core.Logic.{◌⊎◌, inl, inr, ⊎_elim}
use mathlib.Core.List.{List, [], ◌∷◌, ◌++◌, append-nil}
use native.Mathlib.Omega.{arith}
use lib.ListN.{length, take, drop, set, length-append, length-take, length-drop, drop_of_length-le}
use lib.Seq.{take_all, drop-drop, take_at, drop_at}
use lib.Dec.{leb, lit≤}
use borrow.Author.Tests.{le-leb, lt-leb}
use Rattle.wire.specs.Answer.{result, refused, told, ask}
use Rattle.wire.specs.Front.{Put}
use Rattle.wire.proofs.ListLaws.{lt-or-le}
use Rattle.wire.proofs.FrontLaws.{piece-drop, piece-length}
use Rattle.varint.specs.Varint.{width, class, shortest}
use Rattle.varint.proofs.RoundTrip.{length-shortest}
use Rattle.frames.specs.Frame.{encode, encode_all}
use Rattle.frames.specs.Join.{limit}
use Rattle.frames.specs.Cut.{short_frame, cut_from, cut, frames_of, cut_of, after_cut, Cuts}
use Rattle.std.specs.Prelude.{Ok, Err}
use Rattle.wire.specs.declared.refusals.Refusal.{Refusal}
use Rattle.wire.specs.declared.refusals.Refusal.TheVariants as no
use Rattle.wire.specs.Refusals.{question}
use Rattle.wire.proofs.Writing.{lent_from, back_from, Writing, stored, restated, next-room, writes}

-- ---- varints

-- of any class, in the table or not
width-any : (c : ℕ) → width c ≤ 8
width-any zero = lit≤ tt
width-any (suc zero) = lit≤ tt
width-any (suc (suc zero)) = lit≤ tt
width-any (suc (suc (suc zero))) = lit≤ tt
width-any (suc (suc (suc (suc c)))) = zero-le

pub shortest-most : (v : ℕ) → length (shortest v) ≤ 8
shortest-most v = rw (length-shortest v) (width-any (class v))

-- ---- one frame

-- the bytes of the frame of some data
abbrev pub frame_at : ℕ → List ℕ → List ℕ
frame_at at bs = encode (short_frame (record { offset = at; bytes = bs }))

-- the same as the code writes them: the type, then three parts
abbrev pub parts : ℕ → List ℕ → List ℕ
parts at bs = shortest at ++ (shortest (length bs) ++ (bs ++ []))

pub frame-parts : (at : ℕ) (bs : List ℕ) → frame_at at bs ≡ 6 ∷ parts at bs
unfolding encode shortest
frame-parts at bs = rw append-nil

pub length-frame : (at : ℕ) (bs : List ℕ) → length (frame_at at bs) ≡ 1 + width (class at) + width (class (length bs)) + length bs
length-frame at bs =
    rw (frame-parts at bs)
    (omega (
      arith,
      length-append (shortest at) (shortest (length bs) ++ (bs ++ [])),
      length-append (shortest (length bs)) (bs ++ []),
      ap length (append-nil bs),
      length-shortest at,
      length-shortest (length bs),
    ))

frame-most : (at : ℕ) (bs : List ℕ) → length (frame_at at bs) ≤ 17 + length bs
frame-most at bs = omega (arith, length-frame at bs, width-any (class at), width-any (class (length bs)))

-- the same by the widths that were found
pub frame-size : (at : ℕ) (bs : List ℕ) (o l : ℕ) → o ≡ width (class at) → l ≡ width (class (length bs))
    → (1 + o + l + length bs ≡ length (frame_at at bs)) × (1 + o + l + length bs ≤ 17 + length bs)
frame-size at bs o l p q = let e : 1 + o + l + length bs ≡ length (frame_at at bs) = rw (p, q) (sym (length-frame at bs)) in (e, rw e (frame-most at bs))

-- the output while a frame is written: its type (any here), then offset, length and data, each to the part after the last
module _ {x : ℕ} (at : ℕ) (bs old : List ℕ) (h : length (frame_at at bs) ≤ length old) where
  pub typed : Writing (x ∷ parts at bs) (parts at bs) old (set old 0 x) 1
  typed = stored x (parts at bs) old (rw (frame-parts at bs) at h)

  module _ {a : ℕ} {p : List ℕ} (o : Put (shortest at) a (lent_from 1 (set old 0 x)) p) where
    pub offset-written : Writing (x ∷ parts at bs) (shortest (length bs) ++ (bs ++ [])) old (back_from 1 (set old 0 x) p) (1 + a)
    offset-written = writes (shortest at) _ typed o

    module _ {b : ℕ} {q : List ℕ} (l : Put (shortest (length bs)) b (lent_from (1 + a) (back_from 1 (set old 0 x) p)) q) where
      pub length-written : Writing (x ∷ parts at bs) (bs ++ []) old (back_from (1 + a) (back_from 1 (set old 0 x) p) q) (1 + a + b)
      length-written = writes (shortest (length bs)) _ offset-written l

      pub data-written :
          {n : ℕ} {r : List ℕ} → Put bs n (lent_from (1 + a + b) (back_from (1 + a) (back_from 1 (set old 0 x) p) q)) r
          → Writing (x ∷ parts at bs) [] old (back_from (1 + a + b) (back_from (1 + a) (back_from 1 (set old 0 x) p) q) r) (1 + a + b + n)
      data-written d = writes bs [] length-written d

-- ---- all frames

-- a turn of the definition
cut-next : (n c at : ℕ) (bs : List ℕ) → 0 < length bs
    → encode_all (cut_from (suc n) c at bs) ≡ frame_at at (take c bs) ++ encode_all (cut_from n c (at + c) (drop c bs))
unfolding cut_from encode_all
cut-next n c at [] h = absurd (omega arith)
cut-next n c at (b ∷ bs) h = refl

cut-none : (n c at : ℕ) → cut_from n c at [] ≡ []
unfolding cut_from
cut-none zero c at = refl
cut-none (suc n) c at = refl

none_left : (n c at : ℕ) (bs : List ℕ) → length bs ≤ 0 → encode_all (cut_from n c at bs) ≡ []
unfolding encode_all
none_left n c at [] h = rw cut-none
none_left n c at (b ∷ bs) h = absurd (omega arith)

-- a frame has 17 bytes at most besides its data, and data of 1 byte at least
cut_most : (n c at : ℕ) (bs : List ℕ) → 1 ≤ c → length (encode_all (cut_from n c at bs)) ≤ 18 * length bs
unfolding cut_from encode_all
cut_most zero c at bs k = zero-le
cut_most (suc n) c at [] k = zero-le
cut_most (suc n) c at (b ∷ bs) k =
    omega (
      arith,
      frame-most at (take c (b ∷ bs)),
      length-append (frame_at at (take c (b ∷ bs))) (encode_all (cut_from n c (at + c) (drop c (b ∷ bs)))),
      cut_most n c (at + c) (drop c (b ∷ bs)) k,
      length-take c (b ∷ bs),
      length-drop c (b ∷ bs),
    )

frames-most : (c : ℕ) (hello : List ℕ) → 1 ≤ c → length hello ≤ limit → length (frames_of c hello) ≤ 18 * limit
unfolding frames_of cut
frames-most c hello k h = omega (arith, cut_most (length hello) c 0 hello k)

-- ---- the loops: i pieces are done, which make n bytes of the whole, and what is still to be cut makes the others

pub record Left (c : ℕ) (hello : List ℕ) (i n : ℕ) : Type 0 where
  pub done : n ≤ length (frames_of c hello)
  pub fuel : ℕ
  pub enough : length hello ≤ i * c + fuel
  pub rest : drop n (frames_of c hello) ≡ encode_all (cut_from fuel c (i * c) (drop (i * c) hello))

pub starts : (c : ℕ) (hello : List ℕ) → Left c hello 0 0
unfolding frames_of cut
starts c hello =
    let z : 0 * c ≡ 0 = omega arith in
    record { done = zero-le; fuel = length hello; enough = omega arith; rest = rw z refl }

pub ends : {c : ℕ} {hello : List ℕ} {i n : ℕ} → Left c hello i n → length (drop (i * c) hello) ≤ 0 → n ≡ length (frames_of c hello)
ends {c} {hello} {i} {n} l h =
    let none : encode_all (cut_from l.fuel c (i * c) (drop (i * c) hello)) ≡ [] = none_left l.fuel c (i * c) (drop (i * c) hello) h in
    omega (arith, l.done, length-drop n (frames_of c hello), ap length (l.rest ∙ none))

-- the next piece, as the iterator over the hello's pieces hands it out, and what is left after it
pub record Next (c : ℕ) (hello : List ℕ) (i n : ℕ) (piece later : List ℕ) : Type 0 where
  pub done : n ≤ length (frames_of c hello)
  pub fuel : ℕ
  pub enough : length hello ≤ (i + 1) * c + fuel
  pub rest : drop n (frames_of c hello) ≡ frame_at (i * c) piece ++ encode_all (cut_from fuel c ((i + 1) * c) (drop ((i + 1) * c) hello))
  pub follows : later ≡ drop ((i + 1) * c) hello
  pub small : i * c + length piece ≤ length hello

-- the first c elements of a list, or all of them, and what comes after them
front-of : (c : ℕ) (piece later rest : List ℕ) → rest ≡ piece ++ later → length piece ≡ min c (length rest) → (take c rest ≡ piece) × (drop c rest ≡ later)
front-of c piece later rest s w =
    ⊎_elim
    (λ p.
    let none : length later ≤ 0 = omega (arith, ap length s, length-append piece later) in
    let all : later ≡ [] = sym (take_all 0 later none) in
    let is : rest ≡ piece = s ∙ rw (all, append-nil) in
    (take_all c rest (omega arith) ∙ is, drop_of_length-le rest (omega arith) ∙ sym all))
    (λ q.
    let n : length piece ≡ c = omega arith in
    (rw s (take_at piece later c n), rw s (drop_at piece later c n)))
    (lt-or-le (length rest) c)

pub next-piece : (c : ℕ) (hello : List ℕ) (i n size : ℕ) (rest piece later : List ℕ) → Left c hello i n → 1 ≤ c → size ≡ c → rest ≡ drop (i * c) hello
    → rest ≡ piece ++ later → length piece ≡ min size (length rest) → 0 < length rest → Next c hello i n piece later
next-piece c hello i n size rest piece later l k z r s w some = go l.fuel l.enough l.rest
  where
    at : ℕ
    at = i * c

    long : length rest ≡ length hello - at
    long = ap length r ∙ length-drop at hello

    split : (take c (drop at hello) ≡ piece) × (drop c (drop at hello) ≡ later)
    split = front-of c piece later (drop at hello) (sym r ∙ s) (rw (z, r) at w)

    past : at + c ≡ (i + 1) * c
    past = omega arith

    go : (f : ℕ) → length hello ≤ at + f → drop n (frames_of c hello) ≡ encode_all (cut_from f c at (drop at hello)) → Next c hello i n piece later
    go zero m e = absurd (omega (arith, some, long))
    go (suc f) m e =
        record {
          done = l.done;
          fuel = f;
          enough = omega (arith, past, m, k);
          rest = e ∙ cut-next f c at (drop at hello) (rw r at some) ∙ rw (split.0, drop-drop, past);
          follows = sym split.1 ∙ rw (drop-drop, past);
          small = omega (arith, some, long, w);
        }

module _ {c : ℕ} {hello : List ℕ} {i n : ℕ} {piece later : List ℕ} (t : Next c hello i n piece later) where
  pub goes_on : Left c hello (i + 1) (n + length (frame_at (i * c) piece))
  goes_on =
      let whole = frames_of c hello in
      let frame = frame_at (i * c) piece in
      record {
        done = omega (arith, piece-length whole frame _ n t.done t.rest);
        fuel = t.fuel;
        enough = t.enough;
        rest = piece-drop whole frame _ n t.done t.rest;
      }

  -- so the next sum does not overflow
  pub next_small : 1 ≤ c → length hello ≤ limit → n + length (frame_at (i * c) piece) ≤ 18 * limit
  next_small k s = omega (arith, goes_on.done, frames-most c hello k s)

  -- the next frame has room in the output, and then it stands there
  module _ {old out : List ℕ} (w : Writing (frames_of c hello) (drop n (frames_of c hello)) old out n) where
    pub frame-room : length (frame_at (i * c) piece) ≤ length (lent_from n out)
    frame-room = next-room (frame_at (i * c) piece) _ (restated w t.rest) refl

    pub frame-written :
        {part : List ℕ} {m : ℕ} → Put (frame_at (i * c) piece) m (lent_from n out) part
        → Writing (frames_of c hello) (drop (n + m) (frames_of c hello)) old (back_from n out part) (n + m)
    frame-written p = restated (writes (frame_at (i * c) piece) _ (restated w t.rest) p) refl

-- ---- the answers, by what the code has tested

module _ (c : ℕ) (hello old : List ℕ) where
  refuses : (k : Refusal) → cut_of c hello (length old) ≡ refused (question k) → Cuts c hello old (Err k) old
  unfolding after_cut
  refuses k e = record { is = sym e; tells = ap (told 0) (sym e); output = rw e; bounds = tt }

  pub refuses-small : c < 1 → Cuts c hello old (Err no.FrameSize) old
  unfolding cut_of
  refuses-small h = refuses no.FrameSize (rw (lt-leb 1 c h))

  module _ (k : 1 ≤ c) where
    pub refuses-large : limit < c → Cuts c hello old (Err no.FrameSize) old
    unfolding cut_of
    refuses-large h = refuses no.FrameSize (rw (le-leb 1 c k, lt-leb c limit h))

    module _ (m : c ≤ limit) where
      pub refuses-hello : limit < length hello → Cuts c hello old (Err no.HelloTooLongToCut) old
      unfolding cut_of
      refuses-hello h = refuses no.HelloTooLongToCut (rw (le-leb 1 c k, le-leb c limit m, lt-leb (length hello) limit h))

      module _ (s : length hello ≤ limit) where
        asked : cut_of c hello (length old) ≡ ask (leb (length (frames_of c hello)) (length old)) 26 (result (length (frames_of c hello)))
        unfolding cut_of
        asked = rw (le-leb 1 c k, le-leb c limit m, le-leb (length hello) limit s)

        pub refuses-room : length old < length (frames_of c hello) → Cuts c hello old (Err no.NoRoomForFrames) old
        refuses-room h = refuses no.NoRoomForFrames (asked ∙ rw (lt-leb (length (frames_of c hello)) (length old) h))

        pub cuts : (n : ℕ) (new : List ℕ) → length (frames_of c hello) ≤ length old → Put (frames_of c hello) n old new
            → Cuts c hello old (Ok n) new
        unfolding after_cut
        cuts n new h p =
            let yes : cut_of c hello (length old) ≡ result (length (frames_of c hello)) = asked ∙ rw (le-leb (length (frames_of c hello)) (length old) h) in
            let e : result n ≡ cut_of c hello (length old) = ap result p.count ∙ sym yes in
            record { is = e; tells = ap (told 0) e; output = p.output ∙ rw yes; bounds = rw p.count h }

  -- either bound of c
  pub refuses-width : (c < 1) ⊎ ((1 ≤ c) × (limit < c)) → Cuts c hello old (Err no.FrameSize) old
  refuses-width (inl h) = refuses-small h
  refuses-width (inr (k, h)) = refuses-large k h
