-- The type, and the body to the part after it. Assumes nothing.
use Rattle.wire.specs.Vectors.{extension}
use Rattle.wire.proofs.NumberLaws.{length_digits}
use Rattle.wire.proofs.VectorLaws.{length-vector}
use Rattle.wire.proofs.Writing.{filled, joined}
use native.Mathlib.Omega.{arith}
use Rattle.tls_extensions.proofs.put_extension.Goals as goal

pub overflow_add-result : goal.overflow_add-result
overflow_add-result c = omega (arith, c.put_vector.ensures.count, length-vector 2 c.args.body.now)

pub returns : goal.returns
unfolding extension
returns c = joined (filled (length_digits 256 2 c.args.t.0) c.w16.ensures) c.put_vector.ensures
