-- Names, as a report, a listing and the answer of `name` write them.
use Rattle.std.specs.Prelude.{cond, List, [], ◌∷◌, ◌++◌, ℕ, length, eqb}
use Rattle.script.specs.Scan.{quote, dash, all}
use Rattle.script.specs.Piece.{is_plain}
use Rattle.script_writing.specs.Hex.{hex_text}

-- `"example.org"`
unfoldable pub quoted : List ℕ → List ℕ
quoted name = quote ∷ (name ++ (quote ∷ []))

-- "as text where they can be (every byte 33 to 126 and no `"`), else as plain hex"; "`-` for none"
unfoldable pub name_text : List ℕ → List ℕ
name_text name = cond (eqb (length name) 0) (dash ∷ []) (cond (all is_plain name) (quoted name) (hex_text name))
