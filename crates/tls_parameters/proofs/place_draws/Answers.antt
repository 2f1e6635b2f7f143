-- The loop keeps `Drawn`: the first parameters are placed. Assumes nothing.
use native.Mathlib.Omega.{arith}
use Rattle.profiles.specs.declared.TpEntry.{TpEntry}
use Rattle.profiles.specs.declared.TpEntry.TheVariants as entry
use Rattle.tls_parameters.proofs.OrderLaws.{drawn-none, drawn-more, next-within}
use Rattle.tls_parameters.proofs.place_draws.Goals as goal

-- what stands for a missing one
abbrev missing : TpEntry
missing = entry.Varint 0 0

pub loop-i-init : goal.loop-i-init
loop-i-init c = drawn-none c.args.entries.now c.args.at _ c.requires.0

pub overflow_add-next : goal.overflow_add-next
overflow_add-next c = omega (arith, next-within c.loop-i.invariant missing c.loop-i-test.true c.parameter_draws-next.ensures.0, c.requires.1)

pub loop-i-preserved : goal.loop-i-preserved
loop-i-preserved c = drawn-more c.loop-i.invariant missing c.loop-i-test.true c.parameter_draws-next.ensures.0
