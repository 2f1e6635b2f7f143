-- The lines of short inputs, and which of them is marked. Assumes nothing.
use mathlib.Core.Path.{◌≡◌, refl}
use mathlib.Core.Bool.{true, false}
use mathlib.Core.List.{[], ◌∷◌, map}
use Rattle.wire.specs.Numbers.{number_on, number}
use Rattle.show_lines.specs.Grammar.{grammar, column}
use Rattle.show_lines.specs.Lines.{row, part_end, fixed_front, line_of, line_at, settled, due, next, start, listed, most, rows}
use mathlib.Core.Option.{some}
use Rattle.wire.specs.Stops.{stopped}
use Rattle.show_marks.specs.Text.{marks}
use Rattle.show_hello.specs.Listing.{all_rows}

-- a length that is cut, refused with 18 where it begins. Not of a program that lists no end, and not of one that takes what is left for
-- the rest of the hello.
pub cut-length : all_rows (0x01 ∷ 0x00 ∷ 0x00 ∷ []) ≡ row 0 1 0 ∷ row 1 3 1 ∷ row 3 4 26 ∷ []
unfolding number_on number grammar column part_end fixed_front line_of line_at settled due next start listed most rows all_rows
cut-length = refl

pub cut-length-marked : map (marks (some (stopped 18 1))) (all_rows (0x01 ∷ 0x00 ∷ 0x00 ∷ [])) ≡ false ∷ true ∷ false ∷ []
unfolding number_on number grammar column part_end fixed_front line_of line_at settled due next start listed most rows all_rows
cut-length-marked = refl

-- a hello that ends before its length: the end is marked. Not of a program whose last line holds no place.
pub end_marked : map (marks (some (stopped 18 1))) (all_rows (0x01 ∷ [])) ≡ false ∷ true ∷ []
unfolding grammar column part_end fixed_front line_of line_at settled due next start listed most rows all_rows
end_marked = refl
