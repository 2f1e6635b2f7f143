-- Samples of bytes as an answer shows them, and of numbers in hex. Assumes nothing.
use Prim.Native.Nat.{ℕ, ◌^◌, ◌-◌}
use mathlib.Core.Path.{◌≡◌, refl}
use mathlib.Core.List.{List, [], ◌∷◌, map}
use lib.ListN.{replicate}
use Rattle.wire.specs.Numbers.{digits}
use Rattle.script.specs.Scan.{text}
use Rattle.script_writing.specs.Digits.{places}
use Rattle.script_writing.specs.Decimal.{decimal_width, decimal_digits, decimal_text}
use Rattle.script_writing.specs.Hex.{hex_letter, hex_pair, hex_text, hex_width, hex_digits, word_text, id_text}
use Rattle.script_writing.specs.Shown.{equal_front, trailing_run, run_text, joined_text, after_hex, shown_text}

-- no bytes, seven equal ones, eight, and `40b4` with fourteen after it. The second rules out a program that writes a run from seven equal
-- bytes on
abbrev pub shown : List (List ℕ)
shown = [] ∷ replicate 7 0xa5 ∷ replicate 8 0xa5 ∷ (0x40 ∷ 0xb4 ∷ replicate 14 0xa5) ∷ []

abbrev pub texts : List (List ℕ)
texts = text "-" ∷ text "a5a5a5a5a5a5a5" ∷ text "8*a5" ∷ text "40b4+14*a5" ∷ []

pub shown-samples : map shown_text shown ≡ texts
unfolding places decimal_width decimal_digits decimal_text digits hex_letter hex_pair hex_text equal_front trailing_run run_text joined_text after_hex shown_text
shown-samples = refl

-- "16-bit numbers have four hex digits", "parameter ids the fewest": 0, 10, and the largest of each
pub hex-samples :
    (map word_text (0 ∷ 10 ∷ 65535 ∷ []) ≡ text " 0000" ∷ text " 000a" ∷ text " ffff" ∷ [])
    × (map id_text (0 ∷ 10 ∷ (2 ^ 64 - 1) ∷ []) ≡ text " 0" ∷ text " a" ∷ text " ffffffffffffffff" ∷ [])
unfolding word_text id_text hex_width hex_digits hex_letter places digits
hex-samples = (refl, refl)
