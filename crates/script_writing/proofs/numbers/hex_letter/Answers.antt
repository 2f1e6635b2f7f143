-- `script_writing::numbers::hex_letter` meets its contract: the test is the definition's. Assumes nothing.
use borrow.Author.Tests.{lt-ltb, le-ltb}
use Rattle.script_writing.specs.Hex.{hex_letter}
use Rattle.script_writing.proofs.numbers.hex_letter.Goals as goal

pub returns-then-v-lt10 : goal.returns-then-v-lt10
unfolding hex_letter
returns-then-v-lt10 c = rw (lt-ltb c.args.v 10 c.if-v-lt10.true)

pub returns-else-v-lt10 : goal.returns-else-v-lt10
unfolding hex_letter
returns-else-v-lt10 c = rw (le-ltb c.args.v 10 c.if-v-lt10.false)
