-- Marks, fronts of lines and verdicts. Each rules out a program that writes something else. Assumes nothing.
use mathlib.Core.Path.{◌≡◌, refl}
use mathlib.Core.Bool.{true, false}
use mathlib.Core.List.{[], ◌∷◌, map}
use mathlib.Core.Option.{Option, none, some}
use Prim.Native.Nat.{ℕ}
use Rattle.wire.specs.Stops.{Stopped, stopped}
use Rattle.wire.specs.Numbers.{digits}
use Rattle.script.specs.Scan.{text}
use Rattle.script_writing.specs.Digits.{places}
use Rattle.script_writing.specs.Decimal.{decimal_width, decimal_digits, decimal_text}
use Rattle.script_writing.specs.Hex.{hex_letter, hex_pair, hex_text}
use Rattle.script_writing.proofs.AnswerLaws.{joined}
use Rattle.script_writing.specs.Hex.{hex_digits}
use Rattle.show_lines.specs.Lines.{row}
use Rattle.show_marks.specs.Text.{marks, place_parts, blanks, filling, short_parts, count_parts, run_parts, front_parts, verdict_parts}

-- a stop before a line, at its first byte, at its last, and after it. Not of a program that marks the line at whose end the stop lies,
-- and not of one that marks a line where nothing is refused.
pub which-line : map (λ (place : ℕ). marks (some (stopped 19 place)) (row 4 6 2)) (3 ∷ 4 ∷ 5 ∷ 6 ∷ []) ≡ false ∷ true ∷ true ∷ false ∷ []
which-line = refl

pub not-refused : marks none (row 4 6 2) ≡ false
not-refused = refl

-- two bytes at 0x26. Not of a program that writes the line's end, 0028, or as many digits as the place has.
pub short-front : joined (front_parts true 4 0x26 (0x13 ∷ 0x01 ∷ [])) ≡ 10 ∷ text "> 0026  1301                  "
unfolding joined place_parts run_parts short_parts blanks digits hex_digits hex_letter hex_pair hex_text
short-front = refl

-- eight bytes stand whole, and of nine the first six and how many there are. Not of a program that cuts eight, or that counts those left.
pub eight : joined (run_parts (1 ∷ 2 ∷ 3 ∷ 4 ∷ 5 ∷ 6 ∷ 7 ∷ 8 ∷ [])) ≡ text "  0102030405060708      "
unfolding joined run_parts short_parts blanks hex_letter hex_pair hex_text
eight = refl

pub nine : joined (run_parts (1 ∷ 2 ∷ 3 ∷ 4 ∷ 5 ∷ 6 ∷ 7 ∷ 8 ∷ 9 ∷ [])) ≡ text "  010203040506..(9)    "
unfolding joined run_parts count_parts blanks filling digits places decimal_width decimal_digits decimal_text hex_letter hex_pair hex_text
nine = refl

-- not of a program that writes the place in decimal
pub verdicts : map (λ (stop : Option Stopped). joined (verdict_parts 4 stop)) (none ∷ some (stopped 19 0x26) ∷ []) ≡ text "accepted" ∷ text "refused 19 at 0026" ∷ []
unfolding joined digits places decimal_width decimal_digits decimal_text hex_digits hex_letter
verdicts = refl
