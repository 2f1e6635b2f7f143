-- The part of the row that stands for the number ends where that of the number does. Assumes nothing.
use mathlib.Core.Path.{ap, ◌∙◌}
use lib.ListN.{length}
use Rattle.show_lines.specs.Lines.{Cursor, part_end}
use Rattle.show_lines.specs.Numbered.{cursor_by}
use Rattle.show_lines.proofs.NumberedLaws.{part-alike}
use Rattle.show_lines.proofs.by_number.part_end.Goals as goal

pub returns : goal.returns
returns c =
    let n = length c.args.hello.now in
    c.part_end.ensures ∙ ap (λ (d : Cursor). part_end n d) c.by_kind.ensures ∙ part-alike (cursor_by c.args.c) n
