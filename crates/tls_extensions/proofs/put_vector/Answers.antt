-- The count, and the bytes to the part after it. Assumes nothing.
use lib.ListN.{length}
use Rattle.wire.specs.Vectors.{vector}
use Rattle.wire.proofs.NumberLaws.{length_digits}
use Rattle.wire.proofs.Writing.{filled, joined}
use Rattle.tls_extensions.proofs.put_vector.Goals as goal

pub returns : goal.returns
unfolding vector
returns g c = joined (filled (length_digits 256 g.row.N (length c.args.bytes.now)) c.put_be.ensures) c.put_bytes.ensures
