-- The text of a listing: for each line its mark or none, its place, its bytes, what they are in words, and on the marked line the number
-- of the refusal and its question in words. Place, bytes, mark and number are laid down here; the words are not.
use Rattle.std.specs.Prelude.{ℕ, suc, ◌-◌, ◌*◌, min, ◌≡◌, Bool, false, cond, List, [], ◌∷◌, ◌++◌, length, take, drop, replicate, eqb, leb, ltb, Some, None}
use Rattle.std.specs.Prelude as std
use Rattle.std.proofs.Math.Option.{Option, none, some}
use Rattle.wire.specs.Sums.{indicator, total}
use Rattle.script.specs.Scan.{text, space}
use Rattle.script_writing.specs.Decimal.{decimal_text}
use Rattle.script_writing.specs.Hex.{hex_text}
use Rattle.script_writing.specs.Hex.{hex_digits}
use Rattle.wire.specs.Stops.{Stopped, stopped}
use Rattle.wire.specs.declared.Stop.{Stop}
use Rattle.show_lines.specs.Lines.{Row, row, holds}

-- ---- A line's mark and place

-- the stop that a number and a place stand for: no number is 0
abbrev pub stop_from : ℕ → ℕ → Option Stopped
stop_from number place = cond (eqb number 0) none (some (stopped number place))

-- a stop of the code under any number, in place of that of its refusal
abbrev pub stop_by : ℕ → std.Option Stop → Option Stopped
stop_by number None = none
stop_by number (Some s) = some (stopped number s.place)

-- the place of the stop lies in a line
abbrev pub marks : Option Stopped → Row → Bool
marks none r = false
marks (some s) r = holds s.place r

-- `>` before the line's place, which has so many hex digits
abbrev pub mark_text : Bool → List ℕ
mark_text marked = cond marked (10 ∷ 62 ∷ []) (10 ∷ space ∷ [])

unfoldable pub place_parts : Bool → ℕ → ℕ → List (List ℕ)
place_parts marked width at = mark_text marked ∷ (space ∷ hex_digits width at) ∷ []

-- ---- Its bytes

-- up to 24 blanks
unfoldable pub blanks : ℕ → List ℕ
blanks n = replicate (min n 24) space

-- the blanks that fill a column of 22 after a long run
unfoldable pub filling : ℕ → ℕ
filling n = cond (ltb n 100) 4 (cond (ltb n 1000) 3 (cond (ltb n 10000) 2 (cond (ltb n 100000) 1 0)))

unfoldable pub short_parts : List ℕ → List (List ℕ)
short_parts bs = (space ∷ space ∷ []) ∷ hex_text bs ∷ blanks (22 - 2 * length bs) ∷ []

-- how many bytes there are
unfoldable pub count_parts : ℕ → List (List ℕ)
count_parts n = text "..(" ∷ decimal_text n ∷ text ")" ∷ blanks (filling n) ∷ []

-- "the bytes (long runs cut, with their length)": up to 8 of them, or the first six and how many there are
unfoldable pub run_parts : List ℕ → List (List ℕ)
run_parts bs = cond (leb (length bs) 8) (short_parts bs) ((space ∷ space ∷ []) ∷ hex_text (take 6 bs) ∷ count_parts (length bs))

-- place and bytes
abbrev pub front_parts : Bool → ℕ → ℕ → List ℕ → List (List ℕ)
front_parts marked width at bs = place_parts marked width at ++ run_parts bs

-- ---- The whole line

-- the number of the refusal, and its question in some words
abbrev pub reason_parts : Option Stopped → List (List ℕ) → List (List ℕ)
reason_parts none words = []
reason_parts (some s) words = text "  -- " ∷ decimal_text s.number ∷ text ": " ∷ words

abbrev pub bytes_of : List ℕ → Row → List ℕ
bytes_of h r = take (r.end - r.at) (drop r.at h)

pub record LineParts (width : ℕ) (h : List ℕ) (stop : Option Stopped) (r : Row) (parts : List (List ℕ)) : Type 0 where
  pub words : List (List ℕ)
  pub reason : List (List ℕ)
  pub is : parts ≡ front_parts (marks stop r) width r.at (bytes_of h r) ++ (words ++ cond (marks stop r) (reason_parts stop reason) [])

-- lines one after the other
abbrev pub LinesParts : ℕ → List ℕ → Option Stopped → List Row → List (List ℕ) → Type 0
LinesParts width h stop [] parts = parts ≡ []
LinesParts width h stop (r ∷ rs) parts =
    (first : List (List ℕ)) × (others : List (List ℕ)) × LineParts width h stop r first × LinesParts width h stop rs others
    × (parts ≡ first ++ others)

-- the last line: what is left, or nothing, and a place at the end lies in it
abbrev pub last_row : List ℕ → ℕ → Row
last_row h at = row at (suc (length h)) 26

-- how many lines are marked
unfoldable pub count_marked : Option Stopped → List Row → ℕ
count_marked stop rs = total (λ r. indicator (marks stop r)) rs

-- "accepted", or the number of the refusal and its place
abbrev pub verdict_parts : ℕ → Option Stopped → List (List ℕ)
verdict_parts width none = text "accepted" ∷ []
verdict_parts width (some s) = text "refused " ∷ decimal_text s.number ∷ text " at" ∷ (space ∷ hex_digits width s.place) ∷ []
