-- `script_writing::numbers::put_word` meets its contract: four digits are written. Assumes nothing.
use Rattle.script_writing.specs.Hex.{word_text}
use Rattle.script_writing.proofs.numbers.put_word.Goals as goal

pub returns : goal.returns
unfolding word_text
returns c = rw c.from.ensures at c.put_digits.ensures
