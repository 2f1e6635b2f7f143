-- Whole lists of frames: their bytes are placed as their pieces are, and bytes that are placed encode whole frames. Assumes nothing.
use Prim.Native.Nat.{ℕ, zero, suc, ◌≤◌}
use mathlib.Core.Path.{◌≡◌, refl, ap, ◌∙◌}
use mathlib.Core.List.{List, [], ◌∷◌, ◌++◌}
use native.Mathlib.Omega.{arith}
use lib.ListN.{length, drop, length-append, length-drop}
use lib.Seq.{drop_at}
use Rattle.wire.specs.Answer.{Answer, result, and_then}
use Rattle.wire.specs.Numbers.{Bytes}
use Rattle.wire.proofs.NumberLaws.{bytes_drop}
use Rattle.wire.proofs.AnswerLaws.{and_then-agree, and_then-result}
use Rattle.frames.specs.Frame.{Piece, Frame, padding, ping, crypto, encode, encode_all, AllWhole, pieces}
use Rattle.frames.specs.Read.{read_frame, extent}
use Rattle.frames.specs.declared.reading.Frame.{Frame as Shape}
use Rattle.frames.specs.Join.{place, place_frame, place_all}
use Rattle.frames.proofs.ReadBack.{place_value, read-encode, extent-bounds, Encodes, encode-read}
use Rattle.frames.proofs.RunLaws.{place_none, place_read}

-- pieces placed one after the other
unfoldable pub place_pieces : List Piece → List Piece → Answer (List Piece)
place_pieces [] placed = result placed
place_pieces (p ∷ ps) placed = and_then (place p placed) (λ more. place_pieces ps more)

first-placed : (f : Frame) (fs : List Frame) (placed : List Piece) → place_pieces (pieces (f ∷ fs)) placed ≡ and_then (place_value f placed) (λ more. place_pieces (pieces fs) more)
unfolding pieces place_pieces
first-placed padding fs placed = refl
first-placed ping fs placed = refl
first-placed (crypto o l p) fs placed = refl

encode-some : (f : Frame) → 1 ≤ length (encode f)
unfolding encode
encode-some padding = omega arith
encode-some ping = omega arith
encode-some (crypto o l p) = omega arith

-- WHOLE FRAMES ARE PLACED, by their pieces alone
pub place-encoded : (fs : List Frame) (n : ℕ) (placed : List Piece) → AllWhole fs → length (encode_all fs) ≤ n → place_all n (encode_all fs) placed ≡ place_pieces (pieces fs) placed
unfolding encode_all pieces place_pieces
place-encoded [] n placed w h = place_none n [] placed (omega arith)
place-encoded (f ∷ fs) zero placed w h = absurd (omega (arith, length-append (encode f) (encode_all fs), encode-some f))
place-encoded (f ∷ fs) (suc n) placed w h =
    let r = read-encode f (encode_all fs) w.0 in
    let short : length (encode_all fs) ≤ n = omega (arith, length-append (encode f) (encode_all fs), encode-some f) in
    place_read n (encode f ++ encode_all fs) placed r.shape r.read
    ∙ rw (r.places placed, r.taken, drop_at (encode f) (encode_all fs) (length (encode f)) refl, first-placed f fs placed)
    (and_then-agree (place_value f placed) (λ more. place_all n (encode_all fs) more) (λ more. place_pieces (pieces fs) more)
    (λ more l. place-encoded fs n more w.1 short))

-- the frames that bytes encode, where all of them were placed
pub record Placed (bs : List ℕ) (placed all : List Piece) : Type 0 where
  pub frames : List Frame
  pub bytes : bs ≡ encode_all frames
  pub whole : AllWhole frames
  pub places : place_pieces (pieces frames) placed ≡ result all

none : (placed all : List Piece) → result placed ≡ result all → Placed [] placed all
unfolding encode_all pieces place_pieces
none placed all e = record { frames = []; bytes = refl; whole = tt; places = e }

-- a frame before them
one_more : (bs : List ℕ) (s : Shape) (placed more all : List Piece) → Encodes bs s → place_frame bs s placed ≡ result more → Placed (drop (extent s) bs) more all → Placed bs placed all
unfolding encode_all
one_more bs s placed more all f e p =
    record {
      frames = f.frame ∷ p.frames;
      bytes = f.bytes ∙ ap (λ (t : List ℕ). encode f.frame ++ t) p.bytes;
      whole = (f.whole, p.whole);
      places = first-placed f.frame p.frames placed ∙ rw (← f.places placed, e) p.places;
    }

-- BYTES THAT ARE PLACED ENCODE WHOLE FRAMES
pub encoded-placed : (n : ℕ) (bs : List ℕ) (placed all : List Piece) → Bytes bs → length bs ≤ n → place_all n bs placed ≡ result all → Placed bs placed all
unfolding place_all
encoded-placed zero [] placed all b h e = none placed all e
encoded-placed zero (x ∷ bs) placed all b h e = absurd (omega arith)
encoded-placed (suc n) [] placed all b h e = none placed all e
encoded-placed (suc n) (x ∷ bs) placed all b h e =
    let all-bytes = x ∷ bs in
    let read = and_then-result (read_frame all-bytes) _ all e in
    let s = read.value in
    let laid = and_then-result (place_frame all-bytes s placed) _ all read.after in
    let rest = drop (extent s) all-bytes in
    let short : length rest ≤ n = omega (arith, length-drop (extent s) all-bytes, extent-bounds all-bytes s read.is) in
    one_more all-bytes s placed laid.value all (encode-read all-bytes s b read.is) laid.is
    (encoded-placed n rest laid.value all (bytes_drop (extent s) all-bytes b) short laid.after)
