-- `show_marks::put_blanks` meets its contract: the blanks stand at the front of 24 of them. Assumes nothing.
use Prim.Native.Nat.{ℕ}
use mathlib.Core.Path.{ap, ◌∙◌}
use lib.ListN.{replicate}
use Rattle.script.specs.Scan.{space}
use Rattle.script_writing.proofs.ShownLaws.{written_as}
use Rattle.show_marks.specs.Text.{blanks}
use Rattle.show_marks.proofs.RunLaws.{take-replicate}
use native.Mathlib.Omega.{arith}
use Rattle.show_marks.proofs.put_blanks.Goals as goal

pub returns : goal.returns
unfolding blanks
returns c =
    let k = c.min-k in
    let front = take-replicate space k.result 24 (omega (arith, k.ensures)) in
    written_as _ _ _ _ _ (front ∙ ap (λ (n : ℕ). replicate n space) k.ensures) c.put_text.ensures
