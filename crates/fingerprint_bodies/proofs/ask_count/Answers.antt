-- `ask_count` asks as the definition does. Assumes nothing.
use mathlib.Core.Path.{sym, ◌∙◌}
use borrow.Author.Tests.{le-leb, lt-leb}
use Rattle.fingerprint_bodies.proofs.FormLaws.{count-few, count-odd, count-even}
use Rattle.fingerprint_bodies.proofs.ask_count.Goals as goal

pub returns-then-bytes-lt2 : goal.returns-then-bytes-lt2
returns-then-bytes-lt2 c = sym (count-few c.args.bytes c.if-bytes-lt2.true)

pub returns-then-bytes-ne0 : goal.returns-then-bytes-ne0
returns-then-bytes-ne0 c = sym (count-odd c.args.bytes c.if-bytes-lt2.false c.if-bytes-ne0.true)

pub returns-then-bytes-gt128 : goal.returns-then-bytes-gt128
returns-then-bytes-gt128 c = sym (count-even c.args.bytes c.if-bytes-lt2.false c.if-bytes-ne0.false ∙ rw (lt-leb c.args.bytes 128 c.if-bytes-gt128.true))

pub returns : goal.returns
returns c = sym (count-even c.args.bytes c.if-bytes-lt2.false c.if-bytes-ne0.false ∙ rw (le-leb c.args.bytes 128 c.if-bytes-gt128.false))
