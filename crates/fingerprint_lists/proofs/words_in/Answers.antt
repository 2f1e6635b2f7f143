use mathlib.Core.Path.{ap, ◌∙◌}
use Rattle.fingerprint_bodies.proofs.YieldLaws.{front-words}
use Rattle.fingerprint_lists.specs.Arrays.{words_of}
use Rattle.fingerprint_lists.proofs.GoodLaws.{length-words_in}
use native.Mathlib.Omega.{arith}
use Rattle.fingerprint_lists.proofs.words_in.Goals as goal

pub numbers-requires : goal.numbers-requires
numbers-requires c = rw (front-words c.args.list.now) (omega (arith, length-words_in c.args.list.now, c.requires))

pub returns : goal.returns
returns c = c.numbers.ensures ∙ ap words_of (front-words c.args.list.now)
