-- The two numbers of a range are written one after the other. Assumes nothing.
use Rattle.wire.proofs.Writing.{filled, joined, put_as}
use Rattle.fingerprint_layout.proofs.PieceLaws.{length-little, two-littles}
use Rattle.fingerprint_layout.proofs.numbers.put_range.Goals as goal

pub returns : goal.returns
returns c =
    let start = c.put in
    let count = c.put-2 in
    (put_as (two-littles _ _) (joined (filled (length-little 2 _) start.ensures) (filled (length-little 2 _) count.ensures))).output
