-- The lines of a list of frames: one for each frame as the joiner reads it, but PADDING frames that stand together share a line. What no
-- frame can be read from is one line.
use Rattle.std.specs.Prelude.{ℕ, zero, suc, ◌+◌, ◌≤◌, ◌<◌, ◌⊎◌, List, [], ◌∷◌, ◌++◌, length, take, drop}
use Rattle.std.proofs.Math.Option.{Option}
use Rattle.wire.specs.Answer.{Answer, result, refused}
use Rattle.script_writing.specs.Shown.{equal_front}
use Rattle.script_writing.specs.Answers.{WrittenAll}
use Rattle.wire.specs.Stops.{Stopped}
use Rattle.frames.specs.Read.{read_frame}
use Rattle.frames.specs.declared.reading.Frame.{Frame}
use Rattle.frames.specs.declared.reading.Frame.TheVariants as frame
use Rattle.show_lines.specs.Lines.{Row, row}
use Rattle.show_marks.specs.Text.{last_row, verdict_parts, LinesParts}

-- how many bytes 00 stand at the front
unfoldable pub zeros : List ℕ → ℕ
zeros bs = equal_front 0 bs

-- how many bytes the line at the front takes
abbrev pub size_by : List ℕ → Answer Frame → ℕ
size_by bs (refused n) = length bs
size_by bs (result frame.Padding) = zeros bs
size_by bs (result frame.Ping) = 1
size_by bs (result (frame.Crypto c)) = c.end

unfoldable pub line_size : List ℕ → ℕ
line_size bs = size_by bs (read_frame bs)

-- the lines from a place on; each takes a byte at least, so the count of the bytes is fuel enough
unfoldable pub frame_rows : ℕ → ℕ → List ℕ → List Row
frame_rows zero at bs = []
frame_rows (suc f) at [] = []
frame_rows (suc f) at (b ∷ bs) = row at (at + line_size (b ∷ bs)) 0 ∷ frame_rows f (at + line_size (b ∷ bs)) (drop (line_size (b ∷ bs)) (b ∷ bs))

unfoldable pub rows_of : List ℕ → List Row
rows_of bs = frame_rows (length bs) 0 bs

-- where lines that begin at a place end
unfoldable pub end_from : ℕ → List Row → ℕ
end_from at [] = at
end_from at (r ∷ rs) = end_from r.end rs

-- the first lines, as many as there is room for, and a last one with what is left, or nothing
unfoldable pub shown_rows : ℕ → List ℕ → List Row
shown_rows count bs = take count (rows_of bs) ++ (last_row bs (end_from 0 (take count (rows_of bs))) ∷ [])

-- all lines are listed, or the text comes so close to the output's end
abbrev pub room : ℕ
room = 512

-- what the writers of these lines, and of the listing, promise
pub record RowsWritten (bs : List ℕ) (stop : Option Stopped) (r : ℕ) (old new : List ℕ) : Type 0 where
  pub count : ℕ
  pub lines : List (List ℕ)
  pub are : LinesParts 5 bs stop (shown_rows count bs) lines
  pub whole : (length (rows_of bs) ≤ count) ⊎ (length old < r + room)
  pub is : WrittenAll lines r old new

pub record FramesListed (bs : List ℕ) (stop : Option Stopped) (r : ℕ) (old new : List ℕ) : Type 0 where
  pub count : ℕ
  pub lines : List (List ℕ)
  pub are : LinesParts 5 bs stop (shown_rows count bs) lines
  pub whole : (length (rows_of bs) ≤ count) ⊎ (length old < r + room)
  pub is : WrittenAll (verdict_parts 5 stop ++ lines) r old new
