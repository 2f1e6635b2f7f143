-- The bytes from the cursor to the end of its part. Assumes nothing.
use Prim.Native.Nat.{◌≤◌}
use native.Mathlib.Omega.{arith}
use lib.ListN.{length}
use Rattle.show_lines.specs.Rows.{cursor_of}
use Rattle.show_lines.proofs.PartLaws.{part-within}
use Rattle.show_lines.proofs.CodeLaws.{line-found}
use Rattle.show_lines.proofs.cursor.line_at.Goals as goal
use Rattle.show_lines.proofs.cursor.line_at.Goals.{After-part_end-end}

-- the part ends in the hello
within : (c : After-part_end-end) → c.part_end-end.result ≤ length c.args.hello.now
within c =
    let start = c in
    rw c.part_end-end.ensures (part-within (length start.args.hello.now) (cursor_of start.args.c) start.requires.1)

pub slice_bounds-line_of-end : goal.slice_bounds-line_of-end
slice_bounds-line_of-end c = omega (arith, within c)

pub returns : goal.returns
returns c =
    let at-end = c in
    let start = at-end in
    line-found start.args.hello.now (cursor_of start.args.c) (λ i. (at-end.type_inv.hello i).fits) start.requires.1
    start.requires.2 _ at-end.part_end-end.ensures _ c.line_of.ensures
