-- The lines of frames that stand so far, and those that are left. Assumes nothing.
use Prim.Native.Nat.{ℕ, zero, suc, ◌+◌, ◌-◌, ◌≤◌, ◌<◌}
use mathlib.Core.Path.{◌≡◌, refl, sym, ap, ◌∙◌, subst}
use mathlib.Core.Logic.{◌⊎◌, inl, inr, ⊎_elim}
use mathlib.Core.List.{List, [], ◌∷◌, ◌++◌, append_assoc, append-nil}
use mathlib.Core.Option.{Option}
use native.Mathlib.Omega.{arith}
use borrow.Rule.Slice.PartMut.{mid_of, put_mid}
use lib.ListN.{length, take, drop, length-drop, drop_of_length-le}
use lib.Seq.{take_at, drop-drop}
use Rattle.wire.proofs.ListLaws.{length-part-to-end}
use Rattle.script_writing.specs.Answers.{WrittenAll}
use Rattle.script_writing.proofs.AnswerLaws.{written-more}
use Rattle.wire.specs.Stops.{Stopped}
use Rattle.show_lines.specs.Lines.{Row, row}
use Rattle.show_marks.specs.Text.{last_row, verdict_parts, LinesParts}
use Rattle.show_words.specs.Code.{LineWritten, LinesWritten}
use Rattle.show_words.proofs.LineLaws.{lines_none, lines_next}
use Rattle.show_frames.specs.Frames.{line_size, frame_rows, rows_of, end_from, shown_rows, room, RowsWritten, FramesListed}

pub record Going (bs : List ℕ) (stop : Option Stopped) (at used : ℕ) (old out : List ℕ) : Type 0 where
  pub before : List Row
  pub fuel : ℕ
  pub stand : LinesWritten 5 bs stop before used old out
  pub ends : end_from 0 before ≡ at
  pub left : before ++ frame_rows fuel at (drop at bs) ≡ rows_of bs
  pub enough : length bs ≤ fuel + at

rows_more : (f at : ℕ) (bs : List ℕ) → 1 ≤ length bs
    → frame_rows (suc f) at bs ≡ row at (at + line_size bs) 0 ∷ frame_rows f (at + line_size bs) (drop (line_size bs) bs)
unfolding frame_rows
rows_more f at [] h = absurd (omega arith)
rows_more f at (b ∷ bs) h = refl

rows_none : (f at : ℕ) → frame_rows f at [] ≡ []
unfolding frame_rows
rows_none zero at = refl
rows_none (suc f) at = refl

ends_more : (at : ℕ) (rs : List Row) (r : Row) → end_from at (rs ++ (r ∷ [])) ≡ r.end
unfolding end_from
ends_more at [] r = refl
ends_more at (q ∷ rs) r = ends_more q.end rs r

module _ (bs : List ℕ) (stop : Option Stopped) where
  pub going-none : (out : List ℕ) → Going bs stop 0 0 out out
  unfolding rows_of end_from
  going-none out =
      record { before = []; fuel = length bs; stand = lines_none 5 bs stop out; ends = refl; left = refl; enough = omega arith }

  pub going_more : (at size n m k : ℕ) (old out part : List ℕ) → at < length bs → size ≡ line_size (drop at bs) → 1 ≤ size
      → Going bs stop at n old out → k ≡ length out - n → LineWritten 5 bs stop (row at (at + size) 0) m (mid_of n k out) part
      → Going bs stop (at + size) (n + m) old (put_mid n k out part)
  going_more at size n m k old out part inside e some g lent w =
      let r = row at (at + size) 0 in
      let f : ℕ = g.fuel - 1 in
      let fuel : g.fuel ≡ suc f = omega (arith, g.enough) in
      let turn : frame_rows g.fuel at (drop at bs) ≡ r ∷ frame_rows f (at + size) (drop (at + size) bs) =
      ap (λ (x : ℕ). frame_rows x at (drop at bs)) fuel
      ∙ rows_more f at (drop at bs) (omega (arith, length-drop at bs))
      ∙ ap (λ (x : ℕ). row at (at + x) 0 ∷ frame_rows f (at + x) (drop x (drop at bs))) (sym e)
      ∙ ap (λ (x : List ℕ). r ∷ frame_rows f (at + size) x) (drop-drop size at bs) in
      record {
        before = g.before ++ (r ∷ []);
        fuel = f;
        stand = lines_next g.stand lent w;
        ends = ends_more 0 g.before r;
        left = append_assoc g.before (r ∷ []) (frame_rows f (at + size) (drop (at + size) bs))
            ∙ ap (λ (x : List Row). g.before ++ x) (sym turn)
            ∙ g.left;
        enough = omega (arith, g.enough, some);
      }

  shown-is : (before rest : List Row) (at : ℕ) → before ++ rest ≡ rows_of bs → end_from 0 before ≡ at
      → before ++ (last_row bs at ∷ []) ≡ shown_rows (length before) bs
  unfolding shown_rows
  shown-is before rest at e ends =
      let first : take (length before) (rows_of bs) ≡ before =
      ap (take (length before)) (sym e) ∙ take_at before rest (length before) refl in
      rw (first, ends)

  -- the last line stands after them
  module _ (at n m k : ℕ) (old out part : List ℕ) (g : Going bs stop at n old out) (lent : k ≡ length out - n)
      (w : LineWritten 5 bs stop (last_row bs at) m (mid_of n k out) part) where
    ended : (length (rows_of bs) ≤ length g.before) ⊎ (length old < n + m + room) → RowsWritten bs stop (n + m) old (put_mid n k out part)
    ended whole =
        let all : LinesWritten 5 bs stop (g.before ++ (last_row bs at ∷ [])) (n + m) old (put_mid n k out part) = lines_next g.stand lent w in
        record {
          count = length g.before;
          lines = all.parts;
          are = subst (λ (rs : List Row). LinesParts 5 bs stop rs all.parts)
              (shown-is g.before (frame_rows g.fuel at (drop at bs)) at g.left g.ends)
              all.are;
          whole = whole;
          is = all.is;
        }

    pub ended-whole : length bs ≤ at → RowsWritten bs stop (n + m) old (put_mid n k out part)
    ended-whole h =
        let none : frame_rows g.fuel at (drop at bs) ≡ [] =
        ap (frame_rows g.fuel at) (drop_of_length-le bs {i = at} h) ∙ rows_none g.fuel at in
        let all : g.before ≡ rows_of bs =
        sym (append-nil g.before) ∙ ap (λ (x : List Row). g.before ++ x) (sym none) ∙ g.left in
        let same = ap length all in
        ended (inl (omega arith))

    pub ended-short : length out ≡ length old → n ≤ length out → length out - n < room → RowsWritten bs stop (n + m) old (put_mid n k out part)
    ended-short e up h = ended (inr (omega arith))

-- ---- The verdict stands before them

pub listing-is : (bs : List ℕ) (stop : Option Stopped) (n m k : ℕ) (old out part : List ℕ) → length out ≡ length old
    → WrittenAll (verdict_parts 5 stop) n old out → k ≡ length out - n → RowsWritten bs stop m (mid_of n k out) part
    → FramesListed bs stop (n + m) old (put_mid n k out part)
listing-is bs stop n m k old out part same verdict lent rows =
    let long : length (mid_of n k out) ≡ length out - n =
    ap (λ (i : ℕ). length (mid_of n i out)) lent ∙ length-part-to-end out n in
    record {
      count = rows.count;
      lines = rows.lines;
      are = rows.are;
      whole = ⊎_elim (λ p. inl p) (λ q. inr (omega (arith, long, same, verdict.within, q))) rows.whole;
      is = written-more (verdict_parts 5 stop) rows.lines n m k old out part verdict lent rows.is;
    }
