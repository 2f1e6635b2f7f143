-- Samples of pieces, of where pieces end, and of numbers. Assumes nothing.
use Rattle.std.specs.Prelude.{Some, None, Ok, Err}
use Rattle.std.proofs.Common.{◌≡◌, ℕ, ◌-◌, ◌^◌, List, [], ◌∷◌, map, refl}
use Rattle.wire.specs.Numbers.{number_on, number}
use Rattle.script.specs.Scan.{text, is_only, begins, distance}
use Rattle.script.specs.Decimal.{is_decimal, number_of}
use Rattle.script.specs.Hex.{hex_digit, is_hex, hex_byte, pairs}
use Rattle.script.specs.Piece.{piece_length, piece_end, Meaning, bytes, file, malformed, is_plain, inner, text_of, hex_of, times_of, run_of, piece_of, answer_of}
use Rattle.script.specs.declared.reading.NoPiece.TheVariants as no
use Rattle.script.specs.declared.reading.Piece.TheVariants as piece

-- the last answer's bytes in these samples
abbrev pub last : List ℕ
last = 1 ∷ 2 ∷ []

-- `0aBf` rules out a program that reads `a` as eleven
abbrev pub pieces : List (List ℕ)
pieces =
    text "-"
    ∷ text "_"
    ∷ text "@a"
    ∷ text "\"a+b\""
    ∷ text "\"\""
    ∷ text "\""
    ∷ text "0aBf"
    ∷ text "0ab"
    ∷ text "3*a5"
    ∷ text "0*a5"
    ∷ text "2*zz"
    ∷ text "*a5"
    ∷ []
    ∷ []

abbrev pub meanings : List Meaning
meanings =
    bytes []
    ∷ bytes (1 ∷ 2 ∷ [])
    ∷ file
    ∷ bytes (97 ∷ 43 ∷ 98 ∷ [])
    ∷ bytes []
    ∷ malformed
    ∷ bytes (0x0a ∷ 0xbf ∷ [])
    ∷ malformed
    ∷ bytes (0xa5 ∷ 0xa5 ∷ 0xa5 ∷ [])
    ∷ bytes []
    ∷ malformed
    ∷ malformed
    ∷ malformed
    ∷ []

pub piece-samples : map (λ (s : List ℕ). piece_of s last) pieces ≡ meanings
unfolding is_only begins distance is_decimal number_of number_on number hex_digit is_hex hex_byte pairs is_plain inner text_of hex_of times_of run_of piece_of
piece-samples = refl

-- three bytes into room for three, and into room for two
pub answer-samples :
    map (λ (room : ℕ). answer_of (bytes (7 ∷ 8 ∷ 9 ∷ [])) room) (3 ∷ 2 ∷ []) ≡ Ok (piece.Bytes 3) ∷ Err no.TooLong ∷ []
unfolding answer_of
answer-samples = refl

-- the text ends before the second plus, and the hex at the end
pub end-samples :
    map (λ (from : ℕ). piece_end (text "\"a+b\"+40") from) (0 ∷ 6 ∷ 8 ∷ 9 ∷ []) ≡ 5 ∷ 8 ∷ 8 ∷ 9 ∷ []
unfolding piece_end piece_length distance
end-samples = refl

-- the largest number is 2^64 - 1, and a letter is no digit
pub number-samples :
    map number_of (text "007" ∷ text "18446744073709551615" ∷ text "18446744073709551616" ∷ text "1a" ∷ [])
    ≡ Some 7 ∷ Some (2 ^ 64 - 1) ∷ None ∷ None ∷ []
unfolding is_decimal number_of number_on number
number-samples = refl
