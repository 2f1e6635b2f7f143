-- `put_row` meets its contract: a line ends in its part, and that in the hello. Assumes nothing.
use Rattle.show_lines.proofs.PartLaws.{part-within}
use native.Mathlib.Omega.{arith}
use Rattle.show_hello.proofs.put_row.Goals as goal

pub slice_bounds-shown-end : goal.slice_bounds-shown-end
slice_bounds-shown-end c =
    let pre = c.requires in
    omega (arith, pre.1.within, part-within _ _ pre.0)
