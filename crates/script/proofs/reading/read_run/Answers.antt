-- `script::reading::read_run` meets its contract: what `read_number` says of the part before the star picks the case. Assumes nothing.
use Rattle.std.proofs.Common.{ℕ, ◌+◌, ◌-◌, List, length, take, drop, sym, ap, ◌∙◌}
use Rattle.wire.proofs.ListLaws.{part_to_end}
use Rattle.script.specs.Piece.{times_of, run_of}
use Rattle.script.proofs.PieceLaws.{run_is, run-other, read_as, read-malformed}
use Rattle.script.proofs.reading.read_run.Goals as goal

pub returns-in-Some : goal.returns-in-Some
returns-in-Some c =
    let start = c in
    let s = start.args.text.now in
    let k = start.args.star in
    let n = c.in-Some.n in
    read_as (times_of n (take (length s - (k + 1)) (drop (k + 1) s))) (run_of s k) c.read_times.result
    start.args.out.now c.read_times.new.out
    (ap (λ (x : List ℕ). times_of n x) (part_to_end s (k + 1)) ∙ run_is s k n
    (sym c.in-Some.is ∙ c.read_number.ensures))
    c.read_times.ensures

pub returns-in-None : goal.returns-in-None
returns-in-None c =
    let start = c in
    read-malformed (run_of start.args.text.now start.args.star) start.args.out.now
    (run-other start.args.text.now start.args.star (sym c.in-None.is ∙ c.read_number.ensures))
