-- `of` goes through the ceilings as `first_above` does. Assumes nothing.
use native.Mathlib.Omega.{arith}
use Rattle.std.proofs.lemmas.Bool.Decides.{nat_tests}
use Rattle.varint.specs.Varint.{first_above, class}
use Rattle.varint.proofs.Class.of.Goals as goal

pub returns-then-value-ceiling : goal.returns-then-value-ceiling
unfolding class first_above
returns-then-value-ceiling c = grind (arith, nat_tests)

pub returns-then-value-ceiling-2 : goal.returns-then-value-ceiling-2
unfolding class first_above
returns-then-value-ceiling-2 c = grind (arith, nat_tests)

pub returns-then-value-ceiling-3 : goal.returns-then-value-ceiling-3
unfolding class first_above
returns-then-value-ceiling-3 c = grind (arith, nat_tests)

pub returns-then-value-ceiling-4 : goal.returns-then-value-ceiling-4
unfolding class first_above
returns-then-value-ceiling-4 c = grind (arith, nat_tests)

pub returns : goal.returns
unfolding class first_above
returns c = grind (arith, nat_tests)
