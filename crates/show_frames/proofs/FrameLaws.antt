-- The lines of frames: together they take every byte, each byte one line, and one line is marked, that of the joiner's stop, however many
-- are shown. Assumes nothing.
use Prim.Native.Nat.{ℕ, zero, suc, ◌+◌, ◌≤◌}
use mathlib.Core.Path.{◌≡◌, refl, sym, ap, ◌∙◌, subst}
use mathlib.Core.Bool.{Bool, true, false, cond}
use mathlib.Core.List.{List, [], ◌∷◌}
use mathlib.Core.Option.{some}
use native.Mathlib.Omega.{arith}
use lib.ListN.{length, take, drop, length-drop}
use lib.Dec.{eqb}
use Rattle.wire.specs.Answer.{Answer, result, refused, and_then}
use Rattle.wire.proofs.AnswerLaws.{apart}
use Rattle.wire.specs.Stops.{Stopped}
use Rattle.script_writing.specs.Shown.{equal_front}
use Rattle.frames.specs.declared.reading.CryptoFrame.{CryptoFrame}
use Rattle.frames.specs.declared.reading.Frame.{Frame}
use Rattle.frames.specs.declared.reading.Frame.TheVariants as frame
use Rattle.std.specs.Prelude.{Result}
use Rattle.wire.specs.Refusals.{answer_of}
use Rattle.wire.specs.declared.refusals.Refusal.{Refusal}
use Rattle.script_writing.proofs.ShownLaws.{equal-le}
use Rattle.frames.specs.Read.{read_crypto, read_frame, FrameFound}
use Rattle.frames.proofs.ReadBack.{extent-bounds}
use Rattle.show_lines.specs.Lines.{Row, Tiles}
use Rattle.show_lines.proofs.LineLaws.{tiles-up}
use Rattle.show_marks.specs.Text.{count_marked}
use Rattle.show_marks.proofs.MarkLaws.{last-tile, one-marked}
use Rattle.show_frames.specs.Frames.{zeros, size_by, line_size, frame_rows, rows_of, end_from, shown_rows}

-- ---- How many bytes a line takes

zeros_within : (bs : List ℕ) → zeros bs ≤ length bs
unfolding zeros
zeros_within bs = equal-le 0 bs

abbrev on_padding : Answer Frame → ℕ
on_padding (refused n) = 0
on_padding (result frame.Padding) = 1
on_padding (result frame.Ping) = 0
on_padding (result (frame.Crypto c)) = 0

not-padding : (x y : Bool) (a : Answer CryptoFrame)
    → cond x (result frame.Ping) (cond y (and_then a (λ c. result (frame.Crypto c))) (refused 11)) ≡ result frame.Padding → ⊥
not-padding true y a e = let z : ◌≡◌ {A = ℕ} 0 1 = ap on_padding e in omega arith
not-padding false true (result c) e = let z : ◌≡◌ {A = ℕ} 0 1 = ap on_padding e in omega arith
not-padding false true (refused n) e = apart e
not-padding false false a e = apart e

-- PADDING begins with a byte 00
zeros-some : (bs : List ℕ) → read_frame bs ≡ result frame.Padding → 1 ≤ zeros bs
unfolding read_frame zeros equal_front
zeros-some [] e = absurd (apart e)
zeros-some (b ∷ bs) e = by_zero (eqb b 0) e
  where
    by_zero : (t : Bool)
        → cond t (result frame.Padding)
        (cond (eqb b 1) (result frame.Ping) (cond (eqb b 6) (and_then (read_crypto (b ∷ bs)) (λ c. result (frame.Crypto c))) (refused 11)))
        ≡ result frame.Padding → 1 ≤ cond t (suc (zeros bs)) 0
    by_zero true e = omega arith
    by_zero false e = absurd (not-padding (eqb b 1) (eqb b 6) (read_crypto (b ∷ bs)) e)

sized : (bs : List ℕ) → 1 ≤ length bs → (a : Answer Frame) → read_frame bs ≡ a → (1 ≤ size_by bs a) × (size_by bs a ≤ length bs)
sized bs h (refused n) e = (h, omega arith)
sized bs h (result frame.Padding) e = (zeros-some bs e, zeros_within bs)
sized bs h (result frame.Ping) e = (omega arith, h)
sized bs h (result (frame.Crypto c)) e = extent-bounds bs (frame.Crypto c) e

pub size-bounds : (bs : List ℕ) → 1 ≤ length bs → (1 ≤ line_size bs) × (line_size bs ≤ length bs)
unfolding line_size
size-bounds bs h = sized bs h (read_frame bs) refl

-- as the code finds the frame
pub size_is : (bs : List ℕ) (r found : Result Frame Refusal) (n : ℕ) → 1 ≤ length bs → FrameFound bs r → r ≡ found → n ≡ size_by bs (answer_of found)
    → (n ≡ line_size bs) × (1 ≤ n) × (n ≤ length bs)
unfolding line_size
size_is bs r found n h f e k =
    let is : n ≡ line_size bs = k ∙ ap (λ (x : Result Frame Refusal). size_by bs (answer_of x)) (sym e) ∙ ap (size_by bs) f.is in
    let s = size-bounds bs h in
    (is, omega (arith, is, s), omega (arith, is, s))

-- ---- The lines take every byte

rows-from : (f at : ℕ) (bs : List ℕ) → length bs ≤ f → Tiles at (frame_rows f at bs) (at + length bs)
unfolding frame_rows
rows-from zero at [] h = omega arith
rows-from zero at (b ∷ bs) h = absurd (omega arith)
rows-from (suc f) at [] h = omega arith
rows-from (suc f) at (b ∷ bs) h =
    let all : List ℕ = b ∷ bs in
    let n : ℕ = line_size all in
    let s = size-bounds all (omega arith) in
    let rest : List ℕ = drop n all in
    let long = length-drop n all in
    let end : at + n + length rest ≡ at + length all = omega (arith, long, s) in
    (refl, omega (arith, s), subst (λ (e : ℕ). Tiles (at + n) (frame_rows f (at + n) rest) e) end (rows-from f (at + n) rest (omega (arith, long, s))))

pub frames-tile : (bs : List ℕ) → Tiles 0 (rows_of bs) (length bs)
unfolding rows_of
frames-tile bs =
    let e : 0 + length bs ≡ length bs = omega arith in
    subst (λ (n : ℕ). Tiles 0 (frame_rows (length bs) 0 bs) n) e (rows-from (length bs) 0 bs (omega arith))

-- ---- One line is marked

first-tile : (k at : ℕ) (rs : List Row) (end : ℕ) → Tiles at rs end
    → Tiles at (take k rs) (end_from at (take k rs)) × (end_from at (take k rs) ≤ end)
unfolding end_from
first-tile zero at rs end t = (refl, tiles-up at rs end t)
first-tile (suc k) at [] end t = (refl, omega (arith, t))
first-tile (suc k) at (r ∷ rs) end (e, f, t) = let more = first-tile k r.end rs end t in ((e, f, more.0), more.1)

-- with the last line, those that are shown take every place, the end too
pub shown-tile : (count : ℕ) (bs : List ℕ) → Tiles 0 (shown_rows count bs) (suc (length bs))
unfolding shown_rows
shown-tile count bs =
    let first = first-tile count 0 (rows_of bs) (length bs) (frames-tile bs) in
    last-tile bs (take count (rows_of bs)) (end_from 0 (take count (rows_of bs))) first.0 first.1

pub one-mark : (count : ℕ) (bs : List ℕ) (s : Stopped) → s.place ≤ length bs → count_marked (some s) (shown_rows count bs) ≡ 1
one-mark count bs s k = one-marked s (shown_rows count bs) (length bs) (shown-tile count bs) k
