-- The choice by part. Assumes nothing.
use mathlib.Core.Path.{sym, ap, ◌∙◌}
use Rattle.show_lines.specs.Lines.{part_end}
use Rattle.show_lines.specs.Rows.{part_number}
use Rattle.show_lines.proofs.PartLaws.{hello_part, in-suites, in_block, in_body, in_list, in-none}
use Rattle.show_lines.proofs.cursor.part_end.Goals as goal

pub returns-in-Suites : goal.returns-in-Suites
unfolding part_end
returns-in-Suites c = sym (in-suites _ _ _ _ _ _ (sym c.row_of.ensures.part ∙ ap part_number c.in-Suites.is))

pub returns-in-Block : goal.returns-in-Block
unfolding part_end
returns-in-Block c = sym (in_block _ _ _ _ _ _ (sym c.row_of.ensures.part ∙ ap part_number c.in-Block.is))

pub returns-in-Body : goal.returns-in-Body
unfolding part_end
returns-in-Body c = sym (in_body _ _ _ _ _ _ (sym c.row_of.ensures.part ∙ ap part_number c.in-Body.is))

pub returns-in-List : goal.returns-in-List
unfolding part_end
returns-in-List c = sym (in_list _ _ _ _ _ _ (sym c.row_of.ensures.part ∙ ap part_number c.in-List.is))

pub returns-in-Hello : goal.returns-in-Hello
unfolding part_end
returns-in-Hello c =
    sym (in-none _ _ _ _ _ _ (hello_part (sym c.row_of.ensures.part ∙ ap part_number c.in-Hello.is)))
