-- `ask_words` asks by the count of bytes alone: an even one is twice the count of numbers. Assumes nothing.
use mathlib.Core.Path.{sym, ◌∙◌}
use Rattle.fingerprint_bodies.proofs.FormLaws.{whole-reaches, words-whole, words-other}
use Rattle.fingerprint_bodies.specs.Code.{prefix_bytes}
use Rattle.fingerprint_bodies.proofs.ask_words.Goals as goal

pub overflow_sub-body : goal.overflow_sub-body
overflow_sub-body c = rw c.bytes.ensures (whole-reaches (prefix_bytes c.args.prefix) c.args.body.now (sym c.is_whole.ensures ∙ c.if-is_whole.true))

pub returns-then-is_whole : goal.returns-then-is_whole
returns-then-is_whole c = rw c.bytes.ensures at c.ask_count.ensures ∙ sym (words-whole (prefix_bytes c.args.prefix) c.args.body.now (sym c.is_whole.ensures ∙ c.if-is_whole.true))

pub returns : goal.returns
returns c = sym (words-other (prefix_bytes c.args.prefix) c.args.body.now (sym c.is_whole.ensures ∙ c.if-is_whole.false))
