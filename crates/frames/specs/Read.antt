-- One frame, read from the front of bytes (document 01, questions 11 and 12).
use Rattle.std.specs.Prelude.{ℕ, ◌+◌, ◌-◌, ◌≤◌, ◌<◌, ◌^◌, ◌≡◌, cond, List, [], ◌∷◌, length, take, drop, eqb, leb, Result, IfOk}
use Rattle.wire.specs.Answer.{Answer, result, refused, ask, ask_for, and_then}
use Rattle.wire.specs.Refusals.{answer_of}
use Rattle.wire.specs.declared.refusals.Refusal.{Refusal}
use Rattle.varint.specs.Varint.{read_of}
use Rattle.frames.specs.Frame.{Piece}
use Rattle.frames.specs.declared.reading.CryptoFrame.{CryptoFrame}
use Rattle.frames.specs.declared.reading.Frame.{Frame}
use Rattle.frames.specs.declared.reading.Frame.TheVariants as frame

-- Frame whole? 12 After the type: the varints of offset and length, then as many bytes as the length says
unfoldable pub read_crypto : List ℕ → Answer CryptoFrame
read_crypto bs =
    ask_for (read_of (drop 1 bs)) 12
    (λ o. ask_for (read_of (drop (1 + o.width) bs)) 12
    (λ l. let start = 1 + o.width + l.width in
    ask (leb (start + l.value) (length bs)) 12 (result (record { offset = o.value; start = start; end = start + l.value }))))

-- Known type? 11 Where there is no byte, there is no whole frame.
unfoldable pub read_frame : List ℕ → Answer Frame
read_frame [] = refused 12
read_frame (type ∷ rest) =
    cond (eqb type 0) (result frame.Padding)
    (cond (eqb type 1) (result frame.Ping)
    (cond (eqb type 6) (and_then (read_crypto (type ∷ rest)) (λ c. result (frame.Crypto c)))
    (refused 11)))

-- how many bytes a frame takes
abbrev pub extent : Frame → ℕ
extent frame.Padding = 1
extent frame.Ping = 1
extent (frame.Crypto c) = c.end

-- the piece that a CRYPTO frame of these bytes has
abbrev pub piece_in : List ℕ → CryptoFrame → Piece
piece_in bs c = record { offset = c.offset; bytes = take (c.end - c.start) (drop c.start bs) }

-- ---- The promises: the meaning, then the bounds that a caller needs

abbrev pub CryptoBounds : ℕ → CryptoFrame → Type 0
CryptoBounds n c = (1 ≤ c.start) × (c.start ≤ c.end) × (c.end ≤ n) × (c.offset < 2 ^ 62)

abbrev pub FrameBounds : ℕ → Frame → Type 0
FrameBounds n frame.Padding = Unit {0}
FrameBounds n frame.Ping = Unit {0}
FrameBounds n (frame.Crypto c) = CryptoBounds n c

pub record FrameFound (bs : List ℕ) (r : Result Frame Refusal) : Type 0 where
  pub is : answer_of r ≡ read_frame bs
  pub bounds : IfOk r (λ f. FrameBounds (length bs) f)

-- the same for the body of a CRYPTO frame
pub record CryptoFound (bs : List ℕ) (r : Result CryptoFrame Refusal) : Type 0 where
  pub is : answer_of r ≡ read_crypto bs
  pub bounds : IfOk r (λ c. CryptoBounds (length bs) c)
