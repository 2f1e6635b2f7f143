-- What is written is a text, or nothing. Assumes nothing.
use Rattle.show_words.proofs.WroteLaws.{wrote_none}
use Rattle.show_words.proofs.put_value.Goals as goal

pub returns-in-None : goal.returns-in-None
returns-in-None c = wrote_none c.args.out.now
