-- Of lines that take every place, the end too, one is marked, that of the reader's stop, and none where there is no stop. Assumes nothing.
use Prim.Native.Nat.{ℕ, suc, ◌≤◌, ◌<◌}
use mathlib.Core.Path.{◌≡◌, refl, sym, ◌∙◌}
use mathlib.Core.List.{List, [], ◌∷◌, ◌++◌}
use mathlib.Core.Option.{none, some}
use native.Mathlib.Nat.{zero-add}
use native.Mathlib.Omega.{arith}
use lib.ListN.{length}
use Rattle.wire.specs.Sums.{total}
use Rattle.wire.specs.Stops.{Stopped}
use Rattle.show_lines.specs.Lines.{Row, Tiles, count_holding}
use Rattle.show_lines.proofs.LineLaws.{one_holds}
use Rattle.show_marks.specs.Text.{last_row, count_marked}

tiles_more : (at : ℕ) (rs : List Row) (end : ℕ) (r : Row) → Tiles at rs end → r.at ≡ end → end < r.end
    → Tiles at (rs ++ (r ∷ [])) r.end
tiles_more at [] end r t e f = (e ∙ sym t, omega (arith, t), refl)
tiles_more at (q ∷ rs) end r (a, b, t) e f = (a, b, tiles_more q.end rs end r t e f)

-- with the last line, lines that take every byte up to a place take every place, the end too
pub last-tile : (h : List ℕ) (rs : List Row) (at : ℕ) → Tiles 0 rs at → at ≤ length h → Tiles 0 (rs ++ (last_row h at ∷ [])) (suc (length h))
last-tile h rs at t k = tiles_more 0 rs at (last_row h at) t refl (omega arith)

pub one-marked : (s : Stopped) (rs : List Row) (n : ℕ) → Tiles 0 rs (suc n) → s.place ≤ n → count_marked (some s) rs ≡ 1
unfolding count_marked count_holding
one-marked s rs n t k = one_holds s.place 0 rs (suc n) t (omega arith) (omega arith)

pub none-marked : (rs : List Row) → count_marked none rs ≡ 0
unfolding count_marked total
none-marked [] = refl
none-marked (r ∷ rs) = rw zero-add (none-marked rs)
