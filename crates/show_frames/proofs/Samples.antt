-- The lines of frames. Each rules out a program that writes other lines. Assumes nothing.
use mathlib.Core.Path.{◌≡◌, refl}
use mathlib.Core.Bool.{true, false}
use mathlib.Core.List.{List, [], ◌∷◌, map}
use Prim.Native.Nat.{ℕ}
use Rattle.wire.specs.Numbers.{number_on, number}
use Rattle.varint.specs.Varint.{class_at, read_of}
use Rattle.script_writing.specs.Shown.{equal_front}
use Rattle.frames.specs.Read.{read_crypto, read_frame}
use Rattle.show_lines.specs.Lines.{row}
use mathlib.Core.Option.{some}
use Rattle.wire.specs.Stops.{stopped}
use Rattle.show_marks.specs.Text.{marks}
use Rattle.show_frames.specs.Frames.{zeros, line_size, frame_rows, rows_of, end_from, shown_rows}

-- CRYPTO with two bytes of data, PADDING twice, and PING
abbrev three : List ℕ
three = 0x06 ∷ 0x00 ∷ 0x02 ∷ 0xaa ∷ 0xbb ∷ 0x00 ∷ 0x00 ∷ 0x01 ∷ []

-- not of a program whose CRYPTO line ends where its data begins, and not of one that takes a line's size for its end
pub three-lines : rows_of three ≡ row 0 5 0 ∷ row 5 7 0 ∷ row 7 8 0 ∷ []
unfolding number_on number class_at read_of read_crypto read_frame equal_front zeros line_size frame_rows rows_of
three-lines = refl

-- a CRYPTO frame whose data is cut. Not of a program that gives it the bytes before its data alone: it takes all that is left.
pub cut-frame : rows_of (0x01 ∷ 0x06 ∷ 0x00 ∷ 0x02 ∷ 0xaa ∷ []) ≡ row 0 1 0 ∷ row 1 5 0 ∷ []
unfolding number_on number class_at read_of read_crypto read_frame equal_front zeros line_size frame_rows rows_of
cut-frame = refl

-- the first line and what is left on a last one. Not of a program that leaves out what it has no room for: no line would be marked.
pub first-shown : map (marks (some (stopped 15 7))) (shown_rows 1 three) ≡ false ∷ true ∷ []
unfolding number_on number class_at read_of read_crypto read_frame equal_front zeros line_size frame_rows rows_of end_from shown_rows
first-shown = refl
