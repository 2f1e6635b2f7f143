-- One line of a listing is marked, that of the reader's stop, and none where there is no stop. Assumes nothing.
use Prim.Native.Nat.{ℕ, suc, ◌≤◌}
use mathlib.Core.Path.{◌≡◌}
use mathlib.Core.List.{List}
use mathlib.Core.Option.{none, some}
use native.Mathlib.Omega.{arith}
use lib.ListN.{length, take, length-take}
use Rattle.wire.specs.Numbers.{Bytes}
use Rattle.wire.specs.Stops.{Stopped}
use Rattle.show_lines.specs.Lines.{most, rows, Tiles}
use Rattle.show_lines.proofs.LineLaws.{rows-tile}
use Rattle.show_marks.specs.Text.{count_marked}
use Rattle.show_marks.proofs.MarkLaws.{last-tile, one-marked, none-marked}
use Rattle.show_hello.specs.Listing.{all_rows}

-- the lines take every place, the end too
pub all-rows-tile : (h : List ℕ) → Bytes h → Tiles 0 (all_rows h) (suc (length h))
unfolding all_rows most
all-rows-tile h b = last-tile h (rows h) (length (take most h)) (rows-tile h b) (omega (arith, length-take most h))

pub one-mark : (h : List ℕ) → Bytes h → (s : Stopped) → s.place ≤ length h → count_marked (some s) (all_rows h) ≡ 1
one-mark h b s k = one-marked s (all_rows h) (length h) (all-rows-tile h b) k

pub no-mark : (h : List ℕ) → count_marked none (all_rows h) ≡ 0
no-mark h = none-marked (all_rows h)
