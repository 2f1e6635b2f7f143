-- The text of a name, case by case. Assumes nothing.
use Prim.Native.Nat.{ℕ, ◌+◌}
use mathlib.Core.Path.{◌≡◌}
use mathlib.Core.Bool.{true, false}
use mathlib.Core.List.{List, [], ◌∷◌}
use native.Mathlib.Omega.{arith}
use lib.ListN.{length, length-append}
use borrow.Author.Tests.{eq-eqb, ne_eqb}
use Rattle.script.specs.Scan.{dash, all}
use Rattle.script_writing.specs.Hex.{hex_text}
use Rattle.script.specs.Piece.{is_plain}
use Rattle.script_writing.specs.Names.{quoted, name_text}

module _ (s : List ℕ) where
  pub length-quoted : length (quoted s) ≡ length s + 2
  unfolding quoted
  length-quoted = rw length-append (omega arith)

  pub name-none : length s ≡ 0 → dash ∷ [] ≡ name_text s
  unfolding name_text
  name-none h = rw (eq-eqb (length s) 0 h)

  module _ (h : length s ≡ 0 → ⊥) where
    pub name-quoted : all is_plain s ≡ true → quoted s ≡ name_text s
    unfolding name_text
    name-quoted e = rw (ne_eqb (length s) 0 h, e)

    pub name-hex : all is_plain s ≡ false → hex_text s ≡ name_text s
    unfolding name_text
    name-hex e = rw (ne_eqb (length s) 0 h, e)
