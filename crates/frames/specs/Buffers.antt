-- How output and marks carry the pieces placed so far: what the private functions of the joiner promise each other.
use Rattle.std.specs.Prelude.{ℕ, ◌+◌, ◌≤◌, ◌<◌, ◌≡◌, Bool, not, ◌||◌, List, length, take, drop, get_or, replicate, eqb, leb, Result, Ok, Err, IfOk}
use Rattle.std.proofs.Math.Option.{Option, none, some}
use Rattle.wire.specs.Answer.{Answer, result, refused, ask, unless_refused}
use Rattle.wire.specs.Refusals.{question, answer_of}
use Rattle.wire.specs.declared.Stop.{Stop}
use Rattle.wire.specs.declared.refusals.Refusal.{Refusal}
use Rattle.wire.specs.Front.{front_at}
use Rattle.wire.specs.Sums.{indicator}
use Rattle.wire.specs.Stops.{Stopped, stopped}
use Rattle.frames.specs.Frame.{Piece}
use Rattle.frames.specs.Read.{read_frame, extent}
use Rattle.frames.specs.Stream.{filled, held, end_of, each, values}
use Rattle.frames.specs.Join.{limit, place_frame, join, ended, join_of, padded, out_after, marks_after}
use Rattle.frames.specs.Stops.{join_stops, joiner_stops}
use Rattle.frames.specs.declared.reading.Frame.{Frame}
use Rattle.frames.specs.declared.joining.Step.{Step}

-- 1 where pieces have a byte
abbrev pub mark : List Piece → ℕ → ℕ
mark placed i = indicator (filled placed i)

-- the output holds the byte of each place, zero where there is none; the marks hold 1 where there is one
pub record Carries (placed : List Piece) (out marks : List ℕ) (end : ℕ) : Type 0 where
  pub bytes : out ≡ values (held placed) 0 (length out)
  pub ones : marks ≡ values (mark placed) 0 (length marks)
  pub ends : end ≡ end_of placed

-- a piece agrees with what stands at its places, where a place that is not marked has nothing
abbrev pub agrees_at : List ℕ → List ℕ → List ℕ → ℕ → Bool
agrees_at piece out marks i = eqb (get_or marks i 0) 0 || eqb (get_or out i 0) (get_or piece i 0)

unfoldable pub agreeing : List ℕ → List ℕ → List ℕ → Bool
agreeing piece out marks = each (agrees_at piece out marks) 0 (length piece)

abbrev pub marked_at : List ℕ → ℕ → Bool
marked_at marks i = not (eqb (get_or marks i 0) 0)

unfoldable pub marked : List ℕ → Bool
marked marks = each (marked_at marks) 0 (length marks)

-- bytes 00, and how many of them stand at the front
abbrev pub zero_at : List ℕ → ℕ → Bool
zero_at bs i = eqb (get_or bs i 0) 0

unfoldable pub zeros : List ℕ → Bool
zeros bs = each (zero_at bs) 0 (length bs)

pub record Padding (n : ℕ) (bs : List ℕ) : Type 0 where
  pub within : n ≤ length bs
  pub zero : (i : ℕ) → i < n → get_or bs i 0 ≡ 0

-- questions 13 and 14, asked of the buffers
unfoldable pub place_on : ℕ → List ℕ → List ℕ → List ℕ → Answer ℕ
place_on offset piece out marks =
    let n = length piece in
    ask (leb (offset + n) limit) 13
    (ask (agreeing piece (take n (drop offset out)) (take n (drop offset marks))) 14 (result (offset + n)))

pub record Placing (offset : ℕ) (piece out marks : List ℕ) (r : Result ℕ Refusal) (out' marks' : List ℕ) : Type 0 where
  pub is : answer_of r ≡ place_on offset piece out marks
  pub output : out' ≡ unless_refused (place_on offset piece out marks) (λ e. front_at offset piece out) out
  pub ones : marks' ≡ unless_refused (place_on offset piece out marks) (λ e. front_at offset (replicate (length piece) 1) marks) marks
  pub bounds : IfOk r (λ e. e ≤ limit)

abbrev pub StepBounds : ℕ → Result Step Refusal → Type 0
StepBounds n r = IfOk r (λ s. (1 ≤ s.used) × (s.used ≤ n) × (s.end ≤ limit))

-- a frame was read, and what it has was placed; or its number
pub record Went (bs : List ℕ) (placed : List Piece) (used end : ℕ) (out marks : List ℕ) : Type 0 where
  pub shape : Frame
  pub more : List Piece
  pub read : read_frame bs ≡ result shape
  pub laid : place_frame bs shape placed ≡ result more
  pub width : used ≡ extent shape
  pub carries : Carries more out marks end

pub data Refuses (bs : List ℕ) (placed : List Piece) (n : ℕ) : Type 0 where
  unread : read_frame bs ≡ refused n → Refuses bs placed n
  unlaid : (f : Frame) → read_frame bs ≡ result f → place_frame bs f placed ≡ refused n → Refuses bs placed n

abbrev pub Stepped : List ℕ → List Piece → Result Step Refusal → List ℕ → List ℕ → Type 0
Stepped bs placed (Ok s) out marks = Went bs placed s.used s.end out marks
Stepped bs placed (Err e) out marks = Refuses bs placed (question e)

pub record Stepping (bs out marks : List ℕ) (end : ℕ) (r : Result Step Refusal) (out' marks' : List ℕ) : Type 0 where
  pub is : (placed : List Piece) → Carries placed out marks end → Stepped bs placed r out' marks'
  pub bounds : StepBounds (length bs) r

-- ---- All frames

-- the two readings of what the walk over the frames answers: the joiner's answer, and where it stopped
abbrev pub walked_answer : Result ℕ Stop → Answer ℕ
walked_answer (Ok e) = result e
walked_answer (Err s) = refused (question s.refusal)

abbrev pub walked_stop : Result ℕ Stop → Option Stopped
walked_stop (Ok e) = none
walked_stop (Err s) = some (stopped (question s.refusal) s.place)

abbrev pub WalkBounds : ℕ → Result ℕ Stop → Type 0
WalkBounds length (Ok e) = e ≤ limit
WalkBounds length (Err s) = s.place ≤ length

-- on buffers that were all zero; a refusal leaves them to the caller
pub record Joining (bs out marks : List ℕ) (r : Result ℕ Stop) (out' marks' : List ℕ) : Type 0 where
  pub is : walked_answer r ≡ ended (join bs)
  pub stop : walked_stop r ≡ join_stops bs
  pub output : (s : List ℕ) → join bs ≡ result s → out' ≡ padded s (length out)
  pub ones : (s : List ℕ) → join bs ≡ result s → marks' ≡ padded (replicate (length s) 1) (length marks)
  pub bounds : WalkBounds (length bs) r

-- on any buffers
pub record Walks (bs out marks : List ℕ) (r : Result ℕ Stop) (out' marks' : List ℕ) : Type 0 where
  pub is : walked_answer r ≡ join_of bs out marks
  pub stop : walked_stop r ≡ joiner_stops bs out marks
  pub output : out' ≡ out_after bs out marks
  pub marked : marks' ≡ marks_after bs out marks
  pub bounds : WalkBounds (length bs) r
