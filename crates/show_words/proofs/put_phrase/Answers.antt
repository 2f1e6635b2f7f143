-- `put_phrase` meets its contract: what stands so far is a text. Assumes nothing.
use mathlib.Core.Path.{refl}
use Rattle.show_words.proofs.WroteLaws.{wrote_none, wrote-more}
use borrow.Author.Rules.{rules}
use Rattle.show_words.proofs.put_phrase.Goals as goal

pub loop-piece-init : goal.loop-piece-init
loop-piece-init c = (search rules, refl, wrote_none c.args.out.now)

pub loop-piece-preserved : goal.loop-piece-preserved
loop-piece-preserved c = (search rules, search rules, wrote-more c.loop-piece.invariant.2 refl c.put_piece-used.ensures)
