-- What is written is a text. Assumes nothing.
use Rattle.show_words.proofs.WroteLaws.{wrote-text, wrote_none}
use Rattle.show_words.proofs.put_after.Goals as goal

pub returns-in-Some : goal.returns-in-Some
returns-in-Some c = wrote-text c.put_name.ensures

pub returns-in-None : goal.returns-in-None
returns-in-None c = wrote_none c.args.out.now
