-- A byte, and the name to the part after it. Assumes nothing.
use mathlib.Core.Path.{refl}
use Rattle.wire.proofs.VectorLaws.{length-vector}
use Rattle.wire.proofs.Writing.{filled, joined}
use native.Mathlib.Omega.{arith}
use Rattle.tls_extensions.proofs.put_host_name.Goals as goal

pub overflow_add-result : goal.overflow_add-result
overflow_add-result c = omega (arith, c.put_vector.ensures.count, length-vector 2 c.args.name.now)

pub returns : goal.returns
returns c = joined (filled refl c.w8.ensures) c.put_vector.ensures
