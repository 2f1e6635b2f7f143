-- The lines of three greetings. Each rules out a program that writes other lines. Assumes nothing.
use mathlib.Core.Path.{◌≡◌, refl}
use mathlib.Core.List.{List, [], ◌∷◌, ◌++◌}
use Prim.Native.Nat.{ℕ}
use lib.ListN.{replicate}
use Rattle.wire.specs.Numbers.{number_on, number}
use Rattle.varint.specs.Varint.{class_at, read_of}
use Rattle.fingerprint_bodies.specs.Body.{kind}
use Rattle.fingerprint_bodies.specs.Entries.{bind}
use Rattle.fingerprint_bodies.specs.Forms.{varint_at}
use Rattle.show_lines.specs.Grammar.{grammar, column, body_line}
use Rattle.show_lines.specs.Lines.{Row, row, part_end, parameter_front, fixed_front, line_of, line_at, settled, inside, opened, due, next, start}
use Rattle.show_lines.specs.Lines.{listed, most, rows}

-- message, length of so many bytes, version and random
abbrev begin : ℕ → List ℕ
begin n = (0x01 ∷ 0x00 ∷ 0x00 ∷ n ∷ 0x03 ∷ 0x03 ∷ []) ++ replicate 32 0

-- no session id, one suite and one compression method
abbrev middle : List ℕ
middle = 0x00 ∷ 0x00 ∷ 0x02 ∷ 0x13 ∷ 0x01 ∷ 0x01 ∷ 0x00 ∷ []

abbrev begin-rows : List Row
begin-rows = row 0 1 0 ∷ row 1 4 1 ∷ row 4 6 2 ∷ row 6 38 3 ∷ []

abbrev middle-rows : List Row
middle-rows = row 38 39 4 ∷ row 39 41 5 ∷ row 41 43 6 ∷ row 43 45 7 ∷ []

-- two key shares, and extended_master_secret. Not of a program that takes a body's end for the block's: no list would stand in the body.
-- Not of one for which the front of a key share has 2 bytes: the first group would be a length, and the list one line.
pub two-extensions :
    rows
    (begin 0x40 ++ (middle ++
    (0x00 ∷ 0x15 ∷ 0x00 ∷ 0x33 ∷ 0x00 ∷ 0x0d ∷ 0x00 ∷ 0x0b ∷
    0x00 ∷ 0x1d ∷ 0x00 ∷ 0x02 ∷ 0xaa ∷ 0xbb ∷ 0x00 ∷ 0x17 ∷ 0x00 ∷ 0x01 ∷ 0xcc ∷
    0x00 ∷ 0x17 ∷ 0x00 ∷ 0x00 ∷ [])))
    ≡ begin-rows ++ (middle-rows
    ++ (row 45 47 8 ∷ row 47 51 9 ∷ row 51 53 20 ∷ row 53 59 21 ∷ row 59 64 21 ∷ row 64 68 9 ∷ []))
unfolding
    number_on number kind grammar column body_line part_end fixed_front line_of line_at settled inside opened
    due next start listed most rows
two-extensions = refl

-- a session id of 5 bytes, of which 2 are there. Not of a program that ends a line that is cut after its front, at 39.
pub cut-session-id : rows (begin 0x25 ++ (0x05 ∷ 0xaa ∷ 0xbb ∷ [])) ≡ begin-rows ++ (row 38 41 4 ∷ [])
unfolding number_on number grammar column part_end fixed_front line_of line_at settled inside opened due next start listed most rows
cut-session-id = refl

-- a parameter that says more than its body has, and a byte after it in the block. Not of a program that lets a parameter take what is
-- left of the block: the two would be one line.
pub cut-parameter :
    rows (begin 0x32 ++ (middle ++ (0x00 ∷ 0x07 ∷ 0x00 ∷ 0x39 ∷ 0x00 ∷ 0x02 ∷ 0x01 ∷ 0x01 ∷ 0x05 ∷ [])))
    ≡ begin-rows ++ (middle-rows ++ (row 45 47 8 ∷ row 47 51 9 ∷ row 51 53 22 ∷ row 53 54 9 ∷ []))
unfolding
    number_on number class_at read_of kind bind varint_at grammar column body_line part_end parameter_front
    fixed_front line_of line_at settled inside opened due next start listed most rows
cut-parameter = refl
