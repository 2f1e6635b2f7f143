-- The test is that of the definition. Assumes nothing.
use Prim.Native.Nat.{◌%◌}
use borrow.Author.Tests.{eq-eqb, ne_eqb}
use Rattle.alike.specs.Alike.{alike_id}
use Rattle.alike.proofs.counts.U64Counted.counts_as.Goals as goal

pub returns-then-self-eq27 : goal.returns-then-self-eq27
unfolding alike_id
returns-then-self-eq27 c = rw (eq-eqb (c.args.self % 31) 27 c.if-self-eq27.true)

pub returns-else-self-eq27 : goal.returns-else-self-eq27
unfolding alike_id
returns-else-self-eq27 c = rw (ne_eqb (c.args.self % 31) 27 c.if-self-eq27.false)
