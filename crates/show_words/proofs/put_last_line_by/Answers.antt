-- `put_last_line_by` meets its contract: the last line's end, as the code has it. Assumes nothing.
use native.Mathlib.Numerals.{add-one}
use Rattle.show_words.proofs.put_last_line_by.Goals as goal

pub returns : goal.returns
returns c = rw add-one at c.put_line_by.ensures 26
