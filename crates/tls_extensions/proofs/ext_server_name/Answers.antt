-- The head of a list, and its one entry to the part after it. Assumes nothing.
use Prim.Native.Nat.{◌+◌}
use mathlib.Core.Path.{◌≡◌}
use mathlib.Core.List.{◌∷◌}
use lib.ListN.{length}
use Rattle.wire.specs.Vectors.{vector}
use Rattle.wire.proofs.VectorLaws.{length-vector}
use Rattle.wire.proofs.Writing.{filled, joined, put_as}
use Rattle.tls_extensions.specs.Extensions.{ext_server_name}
use Rattle.tls_extensions.proofs.HeadLaws.{length-list-head, list-extension-is}
use native.Mathlib.Omega.{arith}
use Rattle.tls_extensions.proofs.ext_server_name.Goals as goal

pub overflow_add-result : goal.overflow_add-result
overflow_add-result c = omega (arith, c.put_host_name.ensures.count, length-vector 2 c.args.name.now)

pub returns : goal.returns
unfolding ext_server_name
returns c =
    let args = c.args in
    let put-list-head = c.put_list_head in
    let name = args.name.now in
    let n = 3 + length name in
    let long : length (0 ∷ vector 2 name) ≡ n = omega (arith, length-vector 2 name) in
    let head = filled (length-list-head 0 n) put-list-head.ensures in
    put_as (list-extension-is 2 0 n (0 ∷ vector 2 name) long) (joined head c.put_host_name.ensures)
