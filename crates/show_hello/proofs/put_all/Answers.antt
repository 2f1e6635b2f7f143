-- `show_hello::put_all` meets its contract: the verdict, the lines and the last line are written one after the other. Assumes nothing.
use Prim.Native.Nat.{ℕ}
use mathlib.Core.Path.{refl}
use mathlib.Core.List.{List, ◌++◌, append_assoc}
use Rattle.wire.specs.Numbers.{Bytes}
use Rattle.script_writing.proofs.AnswerLaws.{written-more}
use Rattle.script_writing.proofs.AnswerLaws.{all-as}
use Rattle.show_marks.specs.Text.{stop_by, verdict_parts}
use Rattle.show_hello.proofs.WholeLaws.{lines-all}
use Rattle.show_hello.proofs.put_all.Goals as goal

pub returns : goal.returns
returns c =
    let args = c.args in
    let h = args.hello.now in
    let bytes : Bytes h = λ i. (c.type_inv.hello i).fits in
    let stop = stop_by args.number args.stop in
    let verdict : List (List ℕ) = verdict_parts 4 stop in
    let lines = c.put_lines.ensures in
    let last = c.put_end.ensures in
    let first = c.put_verdict_by-n.ensures in
    let read = c.min-listed in
    let two = written-more _ _ _ _ _ _ _ _ first refl lines.is in
    record {
      lines = lines.parts ++ last.parts;
      are = lines-all h bytes stop read.result read.ensures lines.parts last.parts lines.are last.are;
      is = all-as _ _ _ _ _ (append_assoc verdict lines.parts last.parts) (written-more _ _ _ _ _ _ _ _ two refl last.is);
    }
