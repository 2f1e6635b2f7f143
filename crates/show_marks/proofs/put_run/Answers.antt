-- `show_marks::put_run` meets its contract: the bytes, or the first six and their number. Assumes nothing.
use mathlib.Core.Path.{refl}
use borrow.Author.Tests.{le-leb, lt-leb}
use Rattle.script_writing.proofs.AnswerLaws.{written_one, written-more}
use Rattle.show_marks.specs.Text.{run_parts}
use Rattle.show_marks.proofs.put_run.Goals as goal

pub returns-then-bytes-le8 : goal.returns-then-bytes-le8
unfolding run_parts
returns-then-bytes-le8 c = rw (le-leb _ _ c.if-bytes-le8.true) c.put_short.ensures

pub returns : goal.returns
unfolding run_parts
returns c =
    let first = written_one _ _ _ _ c.put_text-n.ensures in
    let second = written_one _ _ _ _ c.put_hex.ensures in
    let third = c.put_count.ensures in
    let first_two = written-more _ _ _ _ _ _ _ _ first refl second in
    let test = c.if-bytes-le8.false in
    rw (lt-leb _ _ test) (written-more _ _ _ _ _ _ _ _ first_two refl third)
