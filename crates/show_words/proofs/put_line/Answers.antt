-- `put_line` meets its contract: the number is that of the refusal. Assumes nothing.
use Rattle.show_words.proofs.put_line.Goals as goal

pub returns : goal.returns
returns c what = rw c.number_of.ensures at c.put_line_by.ensures what
