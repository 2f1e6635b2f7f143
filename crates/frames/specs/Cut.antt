-- The frame writer (document 01, "Around them" and questions 24 to 26).
use Rattle.std.specs.Prelude.{ℕ, zero, suc, ◌+◌, ◌≤◌, ◌≡◌, ◌&&◌, List, [], ◌∷◌, length, take, drop, leb, Result, IfOk}
use Rattle.wire.specs.Answer.{Answer, result, told, ask, unless_refused}
use Rattle.wire.specs.Refusals.{answer_of, told_of}
use Rattle.wire.specs.declared.refusals.Refusal.{Refusal}
use Rattle.wire.specs.Front.{front}
use Rattle.varint.specs.Varint.{class}
use Rattle.frames.specs.Frame.{Piece, Frame, crypto, encode_all}
use Rattle.frames.specs.Join.{limit}

-- a piece as a CRYPTO frame with "shortest varints"
abbrev pub short_frame : Piece → Frame
short_frame p = crypto (class p.offset) (class (length p.bytes)) p

-- frames of c data bytes, "the last perhaps shorter, in offset order", for what stands from an offset on
unfoldable pub cut_from : ℕ → ℕ → ℕ → List ℕ → List Frame
cut_from zero c at bs = []
cut_from (suc n) c at [] = []
cut_from (suc n) c at (b ∷ bs) =
    short_frame (record { offset = at; bytes = take c (b ∷ bs) }) ∷ cut_from n c (at + c) (drop c (b ∷ bs))

-- with c of 1 or more, a hello has as many frames as bytes at most; "an empty hello gives no bytes"
unfoldable pub cut : ℕ → List ℕ → List Frame
cut c hello = cut_from (length hello) c 0 hello

unfoldable pub frames_of : ℕ → List ℕ → List ℕ
frames_of c hello = encode_all (cut c hello)

-- c from 1 to 16,384? 24 Hello at most 16,384 bytes? 25 Does the output hold all frames? 26 "The result is the length."
unfoldable pub cut_of : ℕ → List ℕ → ℕ → Answer ℕ
cut_of c hello room =
    ask (leb 1 c && leb c limit) 24
    (ask (leb (length hello) limit) 25
    (ask (leb (length (frames_of c hello)) room) 26 (result (length (frames_of c hello)))))

-- "later bytes stay"; a refusal leaves all of it
unfoldable pub after_cut : ℕ → List ℕ → List ℕ → List ℕ
after_cut c hello out = unless_refused (cut_of c hello (length out)) (λ n. front (frames_of c hello) out) out

-- ---- The promise: "A refusal carries its number, zero counts", so its length is 0

pub record Cuts (c : ℕ) (hello old : List ℕ) (r : Result ℕ Refusal) (new : List ℕ) : Type 0 where
  pub is : answer_of r ≡ cut_of c hello (length old)
  pub tells : told_of 0 r ≡ told 0 (cut_of c hello (length old))
  pub output : new ≡ after_cut c hello old
  pub bounds : IfOk r (λ n. n ≤ length old)
