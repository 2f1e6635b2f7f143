-- The head of a list, and its one entry to the part after it. Assumes nothing.
use Prim.Native.Nat.{◌+◌}
use mathlib.Core.List.{append-nil}
use lib.ListN.{length}
use Rattle.wire.specs.Vectors.{vector, protocols}
use Rattle.wire.proofs.VectorLaws.{length-vector}
use Rattle.wire.proofs.Writing.{filled, joined, put_as}
use Rattle.tls_extensions.specs.Extensions.{ext_alpn}
use Rattle.tls_extensions.proofs.HeadLaws.{length-list-head, list-extension-is}
use native.Mathlib.Omega.{arith}
use Rattle.tls_extensions.proofs.ext_alpn.Goals as goal

pub overflow_add-result : goal.overflow_add-result
overflow_add-result c = omega (arith, c.put_vector.ensures.count, length-vector 1 c.args.name.now)

pub returns : goal.returns
unfolding ext_alpn protocols
returns c =
    let name = c.args.name.now in
    let n = 1 + length name in
    let head = filled (length-list-head 16 n) c.put_list_head.ensures in
    rw append-nil (put_as (list-extension-is 2 16 n (vector 1 name) (length-vector 1 name)) (joined head c.put_vector.ensures))
