-- Numbers in decimal.
use Rattle.std.specs.Prelude.{ℕ, ◌+◌, List, map}
use Rattle.wire.specs.Numbers.{digits}
use Rattle.script_writing.specs.Digits.{places}

-- the byte that writes a digit
abbrev pub decimal_letter : ℕ → ℕ
decimal_letter d = 48 + d

-- a number below 2^64 has at most 20 digits
unfoldable pub decimal_width : ℕ → ℕ
decimal_width v = places 10 20 v

-- the n low digits of a number, as text
unfoldable pub decimal_digits : ℕ → ℕ → List ℕ
decimal_digits n v = map decimal_letter (digits 10 n v)

-- a number in decimal, with the fewest digits
unfoldable pub decimal_text : ℕ → List ℕ
decimal_text v = decimal_digits (decimal_width v) v
