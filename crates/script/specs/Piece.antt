-- Pieces of a byte operand: "one or more pieces joined by `+`".
use Rattle.std.specs.Prelude.{◌≡◌, ℕ, suc, ◌+◌, ◌-◌, ◌%◌, ◌≤◌, min, Bool, cond, not, ◌&&◌, List, [], ◌∷◌, length, take, drop, replicate, ◌==◌, nat_le, nat_lt, slice_index, Option, Some, None, Result, Ok, Err}
use Rattle.wire.specs.Front.{front}
use Rattle.script.specs.Scan.{among, all, is_only, begins, distance, quote, star, plus, dash, at, underscore}
use Rattle.script.specs.Decimal.{number_of}
use Rattle.script.specs.Hex.{is_hex, hex_byte, pairs}
use Rattle.script.specs.declared.reading.NoPiece.{NoPiece}
use Rattle.script.specs.declared.reading.NoPiece.TheVariants as no
use Rattle.script.specs.declared.reading.Piece.{Piece}
use Rattle.script.specs.declared.reading.Piece.TheVariants as piece

-- a text ends after the next `"`, any other piece before the next `+`; or at the operand's end
unfoldable pub piece_length : List ℕ → ℕ
piece_length [] = 0
piece_length (b ∷ s) = cond (b == quote) (suc (min (suc (distance quote s)) (length s))) (distance plus (b ∷ s))

-- where the piece that begins at a place ends
unfoldable pub piece_end : List ℕ → ℕ → ℕ
piece_end operand from = from + piece_length (drop from operand)

-- what a piece stands for
pub data Meaning : Type 0 where
  bytes : List ℕ → Meaning
  file : Meaning
  malformed : Meaning

-- "text: bytes 33 to 126 without `"`"
unfoldable pub is_plain : ℕ → Bool
is_plain b = among 33 126 b && not (b == quote)

-- what stands between the first byte and the last
unfoldable pub inner : List ℕ → List ℕ
inner text = take (length text - 2) (drop 1 text)

-- `"example.org"`, of a piece that begins with a quote: it ends with another, and the bytes between them are plain
unfoldable pub text_of : List ℕ → Meaning
text_of text =
    cond (nat_le 2 (length text) && slice_index text (length text - 1) == quote && all is_plain (inner text))
    (bytes (inner text))
    malformed

-- `0a1b`: "hex, two digits a byte", one byte or more
unfoldable pub hex_of : List ℕ → Meaning
hex_of text =
    cond (nat_lt 0 (length text) && length text % 2 == 0 && all is_hex text)
    (bytes (pairs text))
    malformed

-- "a byte, so many times": the byte is two hex digits
unfoldable pub times_of : ℕ → List ℕ → Meaning
times_of n digits =
    cond (length digits == 2 && all is_hex digits)
    (bytes (replicate n (hex_byte (slice_index digits 0) (slice_index digits 1))))
    malformed

abbrev pub on_number : Option ℕ → (ℕ → Meaning) → Meaning
on_number (Some n) f = f n
on_number None f = malformed

-- `416*00`: the number before the star, and the byte after it
unfoldable pub run_of : List ℕ → ℕ → Meaning
run_of text place = on_number (number_of (take place text)) (λ n. times_of n (drop (place + 1) text))

-- the table of pieces; `last` is "the bytes of the last answer that handed some back"
unfoldable pub piece_of : List ℕ → List ℕ → Meaning
piece_of text last =
    cond (is_only dash text) (bytes [])
    (cond (is_only underscore text) (bytes last)
    (cond (begins at text) file
    (cond (begins quote text) (text_of text)
    (cond (nat_lt (distance star text) (length text)) (run_of text (distance star text))
    (hex_of text)))))

-- the answer, by what a piece stands for and the room
unfoldable pub answer_of : Meaning → ℕ → Result Piece NoPiece
answer_of (bytes s) room = cond (nat_le (length s) room) (Ok (piece.Bytes (length s))) (Err no.TooLong)
answer_of file room = Ok piece.File
answer_of malformed room = Err no.Malformed

-- the output then: the bytes over its front, where they fit
unfoldable pub output_of : Meaning → List ℕ → List ℕ
output_of (bytes s) out = cond (nat_le (length s) (length out)) (front s out) out
output_of file out = out
output_of malformed out = out

-- how many bytes were written
abbrev pub count_of : Result Piece NoPiece → ℕ
count_of (Ok (piece.Bytes n)) = n
count_of (Ok piece.File) = 0
count_of (Err e) = 0

-- what reading a piece promises
pub record Read (m : Meaning) (r : Result Piece NoPiece) (old new : List ℕ) : Type 0 where
  pub result : r ≡ answer_of m (length old)
  pub output : new ≡ output_of m old
  pub within : count_of r ≤ length old
