-- Bytes and numbers in hex, lower case.
use Rattle.std.specs.Prelude.{ℕ, ◌+◌, ◌/◌, ◌%◌, cond, List, [], ◌∷◌, ◌++◌, map, ltb}
use Rattle.wire.specs.Numbers.{digits}
use Rattle.script.specs.Scan.{space}
use Rattle.script_writing.specs.Digits.{places}

-- the digit of a value below 16, lower case
unfoldable pub hex_letter : ℕ → ℕ
hex_letter v = cond (ltb v 10) (v + 48) (v + 87)

unfoldable pub hex_pair : ℕ → List ℕ
hex_pair b = hex_letter (b / 16) ∷ hex_letter (b % 16) ∷ []

-- bytes as "lower-case hex"
unfoldable pub hex_text : List ℕ → List ℕ
hex_text [] = []
hex_text (b ∷ s) = hex_pair b ++ hex_text s

-- a number below 2^64 has at most 16 digits
unfoldable pub hex_width : ℕ → ℕ
hex_width v = places 16 16 v

-- the n low digits of a number, as text
unfoldable pub hex_digits : ℕ → ℕ → List ℕ
hex_digits n v = map hex_letter (digits 16 n v)

-- "16-bit numbers have four hex digits", each number after a space
unfoldable pub word_text : ℕ → List ℕ
word_text v = space ∷ hex_digits 4 v

-- "parameter ids the fewest"
unfoldable pub id_text : ℕ → List ℕ
id_text v = space ∷ hex_digits (hex_width v) v
