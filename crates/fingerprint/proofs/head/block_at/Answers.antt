-- `block_at` finds the block where its length reaches exactly the hello's end. Assumes nothing.
use mathlib.Core.Path.{◌≡◌, refl, sym, ◌∙◌}
use lib.ListN.{take, drop}
use Rattle.wire.specs.Numbers.{number}
use Rattle.wire.proofs.ListLaws.{part_to_end}
use Rattle.fingerprint.proofs.HeadLaws.{end_short, end-other, end-there}
use native.Mathlib.Omega.{arith}
use Rattle.fingerprint.proofs.head.block_at.Goals as goal
use Rattle.fingerprint.proofs.head.block_at.Goals.{After-from}

count : (c : After-from) → number 256 (take 2 (drop c.args.at c.args.hello.now)) ≡ c.from.result
count c = sym (c.from.ensures ∙ rw (part_to_end c.args.hello.now c.args.at) at c.be16.ensures)

pub returns-then-n-at-lt2 : goal.returns-then-n-at-lt2
returns-then-n-at-lt2 c = end_short c.args.hello.now c.args.at c.if-n-at-lt2.true

pub returns-then-from-n : goal.returns-then-from-n
returns-then-from-n c = end-other c.args.hello.now c.args.at c.if-n-at-lt2.false c.from.result (count (goal.at.returns-then-from-n c).After-from) c.if-from-n.true

pub returns : goal.returns
returns c = (end-there c.args.hello.now c.args.at c.if-n-at-lt2.false c.from.result (count (goal.at.returns c).After-from) c.if-from-n.false, refl, omega arith)
