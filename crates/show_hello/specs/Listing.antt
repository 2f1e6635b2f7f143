-- The listing of a hello: the verdict, a line for each field, extension and entry of the first 16,384 bytes, and a last line.
use Rattle.std.specs.Prelude.{ℕ, List, [], ◌∷◌, ◌++◌, length, take}
use Rattle.std.proofs.Math.Option.{Option}
use Rattle.wire.specs.Stops.{Stopped}
use Rattle.script_writing.specs.Answers.{WrittenAll}
use Rattle.show_lines.specs.Lines.{Row, start, listed, most, rows}
use Rattle.show_marks.specs.Text.{last_row, LinesParts, verdict_parts}

-- the lines of up to 16,384 bytes
abbrev pub read_rows : List ℕ → List Row
read_rows h = listed (length h) h (start h)

unfoldable pub all_rows : List ℕ → List Row
all_rows h = rows h ++ (last_row h (length (take most h)) ∷ [])

-- the listing of a hello, line by line
pub record Listed (h : List ℕ) (stop : Option Stopped) (r : ℕ) (old new : List ℕ) : Type 0 where
  pub lines : List (List ℕ)
  pub are : LinesParts 4 h stop (all_rows h) lines
  pub is : WrittenAll (verdict_parts 4 stop ++ lines) r old new
