-- The lines are held before the first read. Assumes nothing.
use Rattle.script.proofs.InputLaws.{start-held}
use Rattle.runner.proofs.run.Goals as goal

pub invariant_of-lines : goal.invariant_of-lines
invariant_of-lines g c = record { held = rw c.start.ensures (start-held _ _) }
