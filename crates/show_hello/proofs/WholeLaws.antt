-- The lines of a hello: those of the bytes that are read, and the last one. Assumes nothing.
use Prim.Native.Nat.{ℕ, zero, suc, ◌-◌, ◌≤◌, min}
use mathlib.Core.Path.{◌≡◌, refl, sym, ap, ◌∙◌, subst}
use mathlib.Core.Logic.{⊎_elim}
use mathlib.Core.Bool.{cond}
use mathlib.Core.List.{List, [], ◌∷◌, ◌++◌}
use mathlib.Core.Option.{Option}
use native.Mathlib.Omega.{arith}
use lib.ListN.{length, take, drop, length-take}
use lib.Seq.{take_all, take-take}
use Rattle.wire.specs.Numbers.{Bytes}
use Rattle.wire.proofs.ListLaws.{lt-or-le}
use Rattle.wire.specs.Stops.{Stopped}
use Rattle.show_lines.specs.Lines.{Row, start, listed, most, rows, Tiles}
use Rattle.show_lines.proofs.LineLaws.{rows-tile, tiles-up}
use Rattle.show_marks.specs.Text.{marks, front_parts, reason_parts, bytes_of, last_row, LineParts, LinesParts}
use Rattle.show_words.proofs.LineLaws.{lines_more}
use Rattle.show_hello.specs.Listing.{all_rows}

-- ---- The lines of the first bytes are lines of the whole

bytes_whole : (m a e : ℕ) (h : List ℕ) → e ≤ m → take (e - a) (drop a (take m h)) ≡ take (e - a) (drop a h)
bytes_whole m zero e h k = take-take (e - 0) m h (omega arith)
bytes_whole zero (suc a) e h k = let z : e - suc a ≡ 0 = omega arith in rw z
bytes_whole (suc m) (suc a) e [] k = refl
bytes_whole (suc m) (suc a) e (x ∷ h) k =
    let z : e - suc a ≡ e - 1 - a = omega arith in
    rw z (bytes_whole m a (e - 1) h (omega arith))

pub lines-whole : (width m : ℕ) (h : List ℕ) (stop : Option Stopped) (at : ℕ) (rs : List Row) (end : ℕ) (parts : List (List ℕ))
    → Tiles at rs end → end ≤ m → LinesParts width (take m h) stop rs parts → LinesParts width h stop rs parts
lines-whole width m h stop at [] end parts t k e = e
lines-whole width m h stop at (r ∷ rs) end parts (a, b, t) k (first, others, l, ls, e) =
    let up : r.end ≤ m = omega (arith, tiles-up r.end rs end t) in
    let same : bytes_of (take m h) r ≡ bytes_of h r = bytes_whole m r.at r.end h up in
    let line : LineParts width h stop r first =
    record {
      words = l.words;
      reason = l.reason;
      is = l.is
          ∙ ap
          (λ (x : List ℕ). front_parts (marks stop r) width r.at x ++ (l.words ++ cond (marks stop r) (reason_parts stop l.reason) []))
          same;
    } in
    (first, others, line, lines-whole width m h stop r.end rs end others t k ls, e)

-- ---- And the last line

take-least : (n m : ℕ) (h : List ℕ) → n ≡ min (length h) m → take n h ≡ take m h
take-least n m h e =
    ⊎_elim
    (λ p. let same : n ≡ m = omega arith in ap (λ (i : ℕ). take i h) same)
    (λ q. take_all n h (omega arith) ∙ sym (take_all m h q))
    (lt-or-le m (length h))

-- n bytes are read
module _ (h : List ℕ) (b : Bytes h) (stop : Option Stopped) (n : ℕ) (e : n ≡ min (length h) 16384) where
  read_is : take (n - 0) h ≡ take most h
  unfolding most
  read_is = take-least (n - 0) 16384 h (omega arith)

  read-long : n ≡ length (take most h)
  unfolding most
  read-long = omega (arith, length-take 16384 h)

  read_up : length (take most h) ≤ most
  unfolding most
  read_up = omega (arith, length-take 16384 h)

  pub lines-all : (ps p : List (List ℕ))
      → LinesParts 4 (take (n - 0) h) stop (listed (length (take (n - 0) h)) (take (n - 0) h) (start (take (n - 0) h))) ps
      → LineParts 4 h stop (last_row h n) p → LinesParts 4 h stop (all_rows h) (ps ++ p)
  unfolding all_rows rows
  lines-all ps p ls l =
      let read : LinesParts 4 (take most h) stop (rows h) ps =
      subst (λ (t : List ℕ). LinesParts 4 t stop (listed (length t) t (start t)) ps) read_is ls in
      lines_more 4 h stop (rows h) (last_row h (length (take most h))) ps p
      (lines-whole 4 most h stop 0 (rows h) (length (take most h)) ps (rows-tile h b) read_up read)
      (subst (λ (i : ℕ). LineParts 4 h stop (last_row h i) p) read-long l)
