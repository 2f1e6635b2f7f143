-- The joiner (document 01, "Joining frames" and questions 10 to 15).
use Rattle.std.specs.Prelude.{ℕ, zero, suc, ◌-◌, ◌≤◌, ◌≡◌, Bool, cond, ◌&&◌, List, [], ◌∷◌, ◌++◌, length, drop, replicate, leb, Result, IfOk}
use Rattle.wire.specs.Answer.{Answer, result, refused, told, ask, and_then}
use Rattle.wire.specs.Refusals.{answer_of, told_of}
use Rattle.wire.specs.declared.refusals.Refusal.{Refusal}
use Rattle.frames.specs.Frame.{Piece, end}
use Rattle.frames.specs.Read.{read_frame, extent, piece_in}
use Rattle.frames.specs.Stream.{agrees, gapless, stream}
use Rattle.frames.specs.declared.reading.Frame.{Frame}
use Rattle.frames.specs.declared.reading.Frame.TheVariants as frame

-- the longest stream, and the least length of each buffer
abbrev pub limit : ℕ
limit = 16384

-- Offset + length at most 16,384? 13 Do its bytes agree with those already placed? 14
unfoldable pub place : Piece → List Piece → Answer (List Piece)
place p placed = ask (leb (end p) limit) 13 (ask (agrees placed p) 14 (result (p ∷ placed)))

-- PADDING and PING have nothing to place
abbrev pub place_frame : List ℕ → Frame → List Piece → Answer (List Piece)
place_frame bs frame.Padding placed = result placed
place_frame bs frame.Ping placed = result placed
place_frame bs (frame.Crypto c) placed = place (piece_in bs c) placed

-- "Then frame by frame": a frame takes a byte at least, so the count of the bytes is fuel enough
unfoldable pub place_all : ℕ → List ℕ → List Piece → Answer (List Piece)
place_all zero bs placed = result placed
place_all (suc n) [] placed = result placed
place_all (suc n) (b ∷ bs) placed =
    and_then (read_frame (b ∷ bs))
    (λ f. and_then (place_frame (b ∷ bs) f placed)
    (λ more. place_all n (drop (extent f) (b ∷ bs)) more))

-- After all: is each place below the end filled? 15
unfoldable pub close : List Piece → Answer (List ℕ)
close placed = ask (gapless placed) 15 (result (stream placed))

-- the stream that frames are joined to, by questions 11 to 15
unfoldable pub join : List ℕ → Answer (List ℕ)
join bs = and_then (place_all (length bs) bs []) close

-- Output and marks 16,384 bytes each or more? 10
unfoldable pub roomy : List ℕ → List ℕ → Bool
roomy out marks = leb limit (length out) && leb limit (length marks)

-- "On success the result is the end"
abbrev pub ended : Answer (List ℕ) → Answer ℕ
ended (result s) = result (length s)
ended (refused n) = refused n

unfoldable pub join_of : List ℕ → List ℕ → List ℕ → Answer ℕ
join_of bs out marks = ask (roomy out marks) 10 (ended (join bs))

-- ---- The buffers

-- what stands in them after success; after refusals 11 to 15, nothing
abbrev pub placed_of : Answer (List ℕ) → List ℕ
placed_of (result s) = s
placed_of (refused n) = []

-- a list, and zeros after it, n in all
unfoldable pub padded : List ℕ → ℕ → List ℕ
padded s n = s ++ replicate (n - length s) 0

-- "the output holds the stream, then zeros"; at 10 it stays as it was
unfoldable pub out_after : List ℕ → List ℕ → List ℕ → List ℕ
out_after bs out marks = cond (roomy out marks) (padded (placed_of (join bs)) (length out)) out

-- "each place of the mark buffer below the end holds 1, the others 0"
unfoldable pub marks_after : List ℕ → List ℕ → List ℕ → List ℕ
marks_after bs out marks = cond (roomy out marks) (padded (replicate (length (placed_of (join bs))) 1) (length marks)) marks

-- ---- The promise: "A refusal carries its number, zero counts", so its end is 0

pub record Joins (bs out marks : List ℕ) (r : Result ℕ Refusal) (out' marks' : List ℕ) : Type 0 where
  pub is : answer_of r ≡ join_of bs out marks
  pub tells : told_of 0 r ≡ told 0 (join_of bs out marks)
  pub output : out' ≡ out_after bs out marks
  pub marked : marks' ≡ marks_after bs out marks
  pub bounds : IfOk r (λ e. e ≤ limit)
