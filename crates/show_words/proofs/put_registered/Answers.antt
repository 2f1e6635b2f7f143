-- `put_registered` meets its contract: what is written is a text. Assumes nothing.
use Rattle.show_words.proofs.WroteLaws.{wrote-text, wrote_none}
use Rattle.show_words.proofs.put_registered.Goals as goal

pub returns-in_default : goal.returns-in_default
returns-in_default c = wrote_none c.args.out.now

pub returns : goal.returns
returns c = wrote-text c.put_name.ensures
