-- The bytes behind zeros, as four. Assumes nothing.
use mathlib.Core.Path.{◌∙◌}
use Rattle.show_lines.proofs.CodeLaws.{behind-zeros}
use Rattle.show_lines.proofs.cursor.number.Goals as goal

pub returns : goal.returns
returns c = c.from.ensures ∙ c.from_be_bytes.ensures ∙ behind-zeros c.args.bytes.now _ c.requires c.copy_from_slice.ensures.after
