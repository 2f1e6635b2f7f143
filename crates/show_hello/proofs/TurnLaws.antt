-- The lines of a hello that stand so far, and those that are left. Assumes nothing.
use Prim.Native.Nat.{ℕ, zero, suc, ◌+◌, ◌-◌, ◌≤◌, ◌<◌}
use mathlib.Core.Path.{◌≡◌, refl, sym, ap, ◌∙◌, subst}
use mathlib.Core.List.{List, [], ◌∷◌, ◌++◌, append_assoc, append-nil}
use mathlib.Core.Option.{Option}
use native.Mathlib.Omega.{arith}
use borrow.Author.Tests.{lt-ltb, le-ltb}
use borrow.Rule.Slice.PartMut.{mid_of, put_mid}
use lib.ListN.{length}
use Rattle.wire.specs.Stops.{Stopped}
use Rattle.show_lines.specs.declared.cursor.Line.{Line}
use Rattle.show_lines.specs.Lines.{Cursor, Row, row, line_at, next, start, listed}
use Rattle.show_words.specs.Code.{LineWritten, LinesWritten}
use Rattle.show_words.proofs.LineLaws.{lines_none, lines_next}

-- the lines so far, and those that are left
pub record Going (h : List ℕ) (stop : Option Stopped) (c : Cursor) (used : ℕ) (old out : List ℕ) : Type 0 where
  pub before : List Row
  pub fuel : ℕ
  pub stand : LinesWritten 4 h stop before used old out
  pub left : before ++ listed fuel h c ≡ listed (length h) h (start h)
  pub enough : length h ≤ fuel + c.at

module _ (h : List ℕ) (stop : Option Stopped) where
  pub going-none : (c : Cursor) (out : List ℕ) → c ≡ start h → Going h stop c 0 out out
  going-none c out e =
      record {
        before = [];
        fuel = length h;
        stand = lines_none 4 h stop out;
        left = ap (listed (length h) h) e;
        enough = omega arith;
      }

  listed_more : (f : ℕ) (c : Cursor) → c.at < length h
      → listed (suc f) h c ≡ row c.at (line_at h c).end c.what ∷ listed f h (next h c (line_at h c))
  unfolding listed
  listed_more f c k = rw (lt-ltb c.at (length h) k)

  listed-none : (f : ℕ) (c : Cursor) → length h ≤ c.at → listed f h c ≡ []
  unfolding listed
  listed-none zero c k = refl
  listed-none (suc f) c k = rw (le-ltb c.at (length h) k)

  pub going_more : (c d : Cursor) (l : Line) (n m k : ℕ) (old out part : List ℕ) → c.at < length h → l ≡ line_at h c → d ≡ next h c l
      → c.at < d.at → Going h stop c n old out → k ≡ length out - n
      → LineWritten 4 h stop (row c.at l.end c.what) m (mid_of n k out) part → Going h stop d (n + m) old (put_mid n k out part)
  going_more c d l n m k old out part inside e f forward g lent w =
      let r = row c.at l.end c.what in
      let fuel : g.fuel ≡ suc (g.fuel - 1) = omega (arith, g.enough) in
      let turn : listed g.fuel h c ≡ r ∷ listed (g.fuel - 1) h d =
      ap (λ (x : ℕ). listed x h c) fuel
      ∙ listed_more (g.fuel - 1) c inside
      ∙ ap (λ (x : Line). row c.at x.end c.what ∷ listed (g.fuel - 1) h (next h c x)) (sym e)
      ∙ ap (λ (x : Cursor). r ∷ listed (g.fuel - 1) h x) (sym f) in
      record {
        before = g.before ++ (r ∷ []);
        fuel = g.fuel - 1;
        stand = lines_next g.stand lent w;
        left = append_assoc g.before (r ∷ []) (listed (g.fuel - 1) h d)
            ∙ ap (λ (x : List Row). g.before ++ x) (sym turn)
            ∙ g.left;
        enough = omega (arith, g.enough, forward);
      }

  pub going-ended : (c : Cursor) (n : ℕ) (old out : List ℕ) → length h ≤ c.at → Going h stop c n old out
      → LinesWritten 4 h stop (listed (length h) h (start h)) n old out
  going-ended c n old out k g =
      let all : g.before ≡ listed (length h) h (start h) =
      sym (append-nil g.before)
      ∙ ap (λ (x : List Row). g.before ++ x) (sym (listed-none g.fuel c k))
      ∙ g.left in
      subst (λ (rs : List Row). LinesWritten 4 h stop rs n old out) all g.stand
