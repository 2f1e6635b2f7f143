-- The parts of a line, and lines one after the other. Assumes nothing.
use Prim.Native.Nat.{ℕ, ◌+◌, ◌-◌, ◌≤◌, min}
use mathlib.Core.Path.{◌≡◌, refl, sym, ap, ap₂, ◌∙◌}
use mathlib.Core.Logic.{⊎_elim}
use mathlib.Core.Bool.{Bool, true, false, cond}
use mathlib.Core.List.{List, [], ◌∷◌, ◌++◌, append_assoc, append-nil}
use mathlib.Core.Option.{Option, none, some}
use native.Mathlib.Omega.{arith}
use borrow.Rule.Slice.PartMut.{mid_of, put_mid}
use lib.ListN.{length, take, drop, length-drop}
use lib.Seq.{take_all}
use Rattle.std.specs.Prelude.{Some, None}
use Rattle.std.specs.Prelude as std
use Rattle.wire.specs.Stops.{Stopped, stop_of}
use Rattle.wire.specs.declared.Stop.{Stop}
use Rattle.wire.proofs.ListLaws.{lt-or-le}
use Rattle.script_writing.specs.Decimal.{decimal_text}
use Rattle.script_writing.specs.Answers.{WrittenAll}
use Rattle.script_writing.proofs.AnswerLaws.{written-more}
use Rattle.script.specs.Scan.{text}
use Rattle.show_lines.specs.Lines.{Row, row}
use Rattle.show_marks.specs.Text.{marks, stop_by, front_parts, reason_parts, bytes_of, LineParts, LinesParts}
use Rattle.show_words.specs.Code.{LineWritten, LinesWritten}
use Rattle.show_words.proofs.WroteLaws.{all_none}

-- ---- One line

-- what a line is does not move its mark
pub marks-any : (stop : Option Stopped) (at end what other : ℕ) → marks stop (row at end what) ≡ marks stop (row at end other)
marks-any none at end what other = refl
marks-any (some s) at end what other = refl

-- nor does the number of the stop
pub marks-by : (number : ℕ) (stop : std.Option Stop) (at end what other : ℕ)
    → marks (stop_of stop) (row at end what) ≡ marks (stop_by number stop) (row at end other)
marks-by number None at end what other = refl
marks-by number (Some s) at end what other = refl

-- its bytes, as the code has them: up to its end or the input's
pub least-bytes : (h : List ℕ) (at past end : ℕ) → end ≡ min past (length h) → take (end - at) (drop at h) ≡ take (past - at) (drop at h)
least-bytes h at past end e =
    ⊎_elim
    (λ p. let same : end ≡ past = omega arith in ap (λ (i : ℕ). take (i - at) (drop at h)) same)
    (λ q.
    let one : length h - at ≤ end - at = omega arith in
    let other : length h - at ≤ past - at = omega arith in
    take_all (end - at) (drop at h) (rw length-drop one) ∙ sym (take_all (past - at) (drop at h) (rw length-drop other)))
    (lt-or-le past (length h))

module _ (width : ℕ) (h : List ℕ) (stop : Option Stopped) (r : Row) (bs : List ℕ) (same : bs ≡ bytes_of h r) (b : Bool) (m : b ≡ marks stop r) where
  line-is : (words reason parts : List (List ℕ)) → parts ≡ front_parts b width r.at bs ++ (words ++ cond b (reason_parts stop reason) [])
      → LineParts width h stop r parts
  line-is words reason parts e =
      record {
        words = words;
        reason = reason;
        is = e
            ∙ ap₂
            (λ (x : Bool) (l : List ℕ). front_parts x width r.at l ++ (words ++ cond x (reason_parts stop reason) []))
            m same;
      }

  module _ {n : ℕ} {old new : List ℕ} where
    pub line_plain : (words : List (List ℕ)) → b ≡ false → WrittenAll (front_parts b width r.at bs ++ words) n old new
        → LineWritten width h stop r n old new
    line_plain words f w =
        let none-there : words ++ cond b (reason_parts stop []) [] ≡ words =
        ap (λ (t : Bool). words ++ cond t (reason_parts stop []) []) f ∙ append-nil words in
        record {
          parts = front_parts b width r.at bs ++ words;
          are = line-is words [] _ (ap (λ (x : List (List ℕ)). front_parts b width r.at bs ++ x) (sym none-there));
          is = w;
        }

    pub line_marked : (s : Stopped) → stop ≡ some s → (words reason : List (List ℕ)) → b ≡ true
        → WrittenAll ((front_parts b width r.at bs ++ words) ++ (text "  -- " ∷ decimal_text s.number ∷ text ": " ∷ reason)) n old new
        → LineWritten width h stop r n old new
    line_marked s e words reason f w =
        let front : List (List ℕ) = front_parts b width r.at bs in
        let why : List (List ℕ) = text "  -- " ∷ decimal_text s.number ∷ text ": " ∷ reason in
        let there : cond b (reason_parts stop reason) [] ≡ why = rw (f, e) in
        record {
          parts = (front ++ words) ++ why;
          are = line-is words reason _
              (append_assoc front words why ∙ ap (λ (x : List (List ℕ)). front ++ (words ++ x)) (sym there));
          is = w;
        }

-- no line is marked where there is no stop
pub none-marked : (b : Bool) (stop : Option Stopped) (r : Row) → stop ≡ none → b ≡ marks stop r → b ≡ false
none-marked b stop r e m = rw e at m

-- ---- Lines one after the other

pub lines_more : (width : ℕ) (h : List ℕ) (stop : Option Stopped) (rs : List Row) (r : Row) (ps p : List (List ℕ))
    → LinesParts width h stop rs ps → LineParts width h stop r p → LinesParts width h stop (rs ++ (r ∷ [])) (ps ++ p)
lines_more width h stop [] r ps p e l = (p, [], l, refl, ap (λ (x : List (List ℕ)). x ++ p) e ∙ sym (append-nil p))
lines_more width h stop (q ∷ rs) r ps p (first, others, a, rest, e) l =
    (first, others ++ p, a, lines_more width h stop rs r others p rest l, ap (λ (x : List (List ℕ)). x ++ p) e ∙ append_assoc first others p)

-- the same of what stands in an output
pub lines_none : (width : ℕ) (h : List ℕ) (stop : Option Stopped) (out : List ℕ) → LinesWritten width h stop [] 0 out out
lines_none width h stop out = record { parts = []; are = refl; is = all_none out }

module _ {width : ℕ} {h : List ℕ} {stop : Option Stopped} {rs : List Row} {r : Row} {n m k : ℕ} {old out part : List ℕ} where
  pub lines_next : LinesWritten width h stop rs n old out → k ≡ length out - n → LineWritten width h stop r m (mid_of n k out) part
      → LinesWritten width h stop (rs ++ (r ∷ [])) (n + m) old (put_mid n k out part)
  lines_next ls e l =
      record {
        parts = ls.parts ++ l.parts;
        are = lines_more width h stop rs r ls.parts l.parts ls.are l.are;
        is = written-more ls.parts l.parts n m k old out part ls.is e l.is;
      }
