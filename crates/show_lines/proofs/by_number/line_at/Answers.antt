-- The line of the row that stands for the number is that of the number. Assumes nothing.
use mathlib.Core.Path.{ap, ◌∙◌}
use native.Mathlib.Omega.{arith}
use lib.ListN.{length}
use Rattle.show_lines.specs.Lines.{Cursor}
use Rattle.show_lines.specs.Numbered.{cursor_by}
use Rattle.show_lines.proofs.NumberedLaws.{line-alike, ready-alike, reaches-alike}
use Rattle.show_lines.proofs.by_number.line_at.Goals as goal

pub line_at-requires : goal.line_at-requires
line_at-requires c =
    let e = c.by_kind.ensures in
    let pre = c.requires in
    let place = ap (λ (d : Cursor). d.at) e in
    (pre.0, rw e (ready-alike (cursor_by c.args.c) _ pre.1), omega (arith, place, pre.2))

pub returns : goal.returns
returns c =
    let h = c.args.hello.now in
    let from = cursor_by c.args.c in
    let found = rw c.by_kind.ensures at c.line_at.ensures in
    (found.0 ∙ line-alike from h, reaches-alike from (length h) _ found.1)
