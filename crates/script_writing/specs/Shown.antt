-- Bytes as an answer shows them, and what a writer promises.
use Rattle.std.specs.Prelude.{ℕ, suc, ◌-◌, ◌≤◌, cond, List, [], ◌∷◌, ◌++◌, reverse, length, take, get_or, leb, eqb}
use Rattle.wire.specs.Front.{Put}
use Rattle.script.specs.Scan.{star, plus, dash}
use Rattle.script_writing.specs.Decimal.{decimal_text}
use Rattle.script_writing.specs.Hex.{hex_pair, hex_text}

-- a text where it fits, else nothing
unfoldable pub fitted : List ℕ → ℕ → List ℕ
fitted text room = cond (leb (length text) room) text []

-- what a writer promises: it wrote the text over the output's front where it fits, and gives how much it wrote
pub record Written (text : List ℕ) (r : ℕ) (old new : List ℕ) : Type 0 where
  pub put : Put (fitted text (length old)) r old new
  pub within : r ≤ length old

-- how many elements at the front equal b
unfoldable pub equal_front : ℕ → List ℕ → ℕ
equal_front b [] = 0
equal_front b (x ∷ xs) = cond (eqb x b) (suc (equal_front b xs)) 0

abbrev pub last_byte : List ℕ → ℕ
last_byte s = get_or s (length s - 1) 0

-- how many bytes at the end are equal: backwards from the end, those that equal the last
unfoldable pub trailing_run : List ℕ → ℕ
trailing_run s = equal_front (last_byte s) (reverse s)

-- `N*bb`
unfoldable pub run_text : ℕ → ℕ → List ℕ
run_text n b = decimal_text n ++ (star ∷ hex_pair b)

-- a run "joined by `+` to the hex before it"
unfoldable pub joined_text : List ℕ → List ℕ → List ℕ
joined_text head run = hex_text head ++ (plus ∷ run)

-- the same where there may be no hex before it: "if any"
unfoldable pub after_hex : List ℕ → List ℕ → List ℕ
after_hex [] run = run
after_hex (b ∷ s) run = joined_text (b ∷ s) run

-- "lower-case hex, `-` for none; where the last eight or more bytes are equal, that whole trailing run is written `N*bb`"
unfoldable pub shown_text : List ℕ → List ℕ
shown_text s =
    cond (eqb (length s) 0) (dash ∷ [])
    (cond (leb 8 (trailing_run s)) (after_hex (take (length s - trailing_run s) s) (run_text (trailing_run s) (last_byte s)))
    (hex_text s))
