-- What the writers of lines promise.
use Rattle.std.specs.Prelude.{ℕ, List, ◌∷◌}
use Rattle.std.proofs.Math.Option.{Option}
use Rattle.wire.specs.Stops.{Stopped}
use Rattle.script_writing.specs.Decimal.{decimal_text}
use Rattle.script_writing.specs.Answers.{WrittenAll}
use Rattle.script.specs.Scan.{text}
use Rattle.show_lines.specs.Lines.{Row}
use Rattle.show_marks.specs.Text.{LineParts, LinesParts}

-- some words, where they fit; later bytes stay
pub record Wrote (r : ℕ) (old new : List ℕ) : Type 0 where
  pub parts : List (List ℕ)
  pub is : WrittenAll parts r old new

-- why the reader stopped
pub record ReasonWritten (number : ℕ) (r : ℕ) (old new : List ℕ) : Type 0 where
  pub words : List (List ℕ)
  pub is : WrittenAll (text "  -- " ∷ decimal_text number ∷ text ": " ∷ words) r old new

-- a line
pub record LineWritten (width : ℕ) (h : List ℕ) (stop : Option Stopped) (row : Row) (r : ℕ) (old new : List ℕ) : Type 0 where
  pub parts : List (List ℕ)
  pub are : LineParts width h stop row parts
  pub is : WrittenAll parts r old new

-- lines one after the other
pub record LinesWritten (width : ℕ) (h : List ℕ) (stop : Option Stopped) (rows : List Row) (r : ℕ) (old new : List ℕ) : Type 0 where
  pub parts : List (List ℕ)
  pub are : LinesParts width h stop rows parts
  pub is : WrittenAll parts r old new
