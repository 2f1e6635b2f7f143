-- `reports::names::put_range` meets its contract: the range and the name are written, and the part of the hello is as long as the name. Assumes nothing.
use Prim.Native.Nat.{ℕ, ◌+◌, ◌-◌}
use mathlib.Core.Path.{◌≡◌, refl, ap}
use mathlib.Core.List.{List, [], ◌∷◌, ◌++◌}
use lib.ListN.{take, drop}
use Rattle.script.specs.Scan.{space}
use Rattle.script_writing.specs.Decimal.{decimal_text}
use Rattle.script_writing.proofs.AnswerLaws.{all-as, written-more}
use Rattle.reports.specs.Lines.{dots, range_parts}
use Rattle.script_writing.specs.Names.{name_text}
use Rattle.reports.specs.Code.{span_parts}
use native.Mathlib.Omega.{arith}
use Rattle.reports.proofs.names.put_range.Goals as goal

pub returns : goal.returns
unfolding range_parts
returns c =
    let s = c.args.span in
    let h = c.args.hello.now in
    let out = c.args.out.now in
    let range = c.put_all-n in
    let name = c.put_spaced_name in
    let k : s.start + s.length - s.start ≡ s.length = omega arith in
    let before : List (List ℕ) = (space ∷ []) ∷ decimal_text s.start ∷ dots ∷ decimal_text (s.start + s.length) ∷ [] in
    let after : ℕ → List (List ℕ) = λ n. (space ∷ []) ∷ name_text (take n (drop s.start h)) ∷ [] in
    all-as _ (span_parts h s) _ _ _ (ap (λ (n : ℕ). before ++ after n) k)
    (written-more before (after (s.start + s.length - s.start)) range.result name.result _ out range.new.out name.new.out
    range.ensures refl name.ensures)
