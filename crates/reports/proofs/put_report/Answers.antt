-- `reports::put_report` meets its contract: the lines are written in three groups, one after the other. Assumes nothing.
use Prim.Native.Nat.{ℕ}
use mathlib.Core.List.{List, ◌++◌, append_assoc}
use Rattle.script_writing.proofs.AnswerLaws.{all-as, written_then}
use Rattle.reports.specs.Code.{first_parts, list_parts, last_parts, report_parts}
use Rattle.reports.proofs.put_report.Goals as goal

pub returns : goal.returns
unfolding report_parts
returns c =
    let f = c.args.report in
    let a : List (List ℕ) = first_parts f in
    let b : List (List ℕ) = list_parts f in
    let d : List (List ℕ) = last_parts c.args.hello.now f in
    all-as ((a ++ b) ++ d) (a ++ (b ++ d)) _ c.args.out.now _ (append_assoc a b d)
    (written_then (written_then c.put_first_lines-at.ensures c.put_list_lines-at.ensures) c.put_last_lines-at.ensures)
