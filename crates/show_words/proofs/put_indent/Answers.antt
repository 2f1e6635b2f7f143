-- What is written is a text. Assumes nothing.
use Rattle.show_words.proofs.WroteLaws.{wrote-text}
use Rattle.show_words.proofs.put_indent.Goals as goal

pub returns : goal.returns
returns c = wrote-text c.put_text.ensures
