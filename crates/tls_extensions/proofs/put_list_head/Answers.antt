-- The head of the extension, and the list's length to the part after it. Assumes nothing.
use Prim.Native.Nat.{◌+◌}
use Rattle.wire.proofs.NumberLaws.{length_digits}
use Rattle.wire.proofs.Writing.{filled, joined}
use Rattle.tls_extensions.proofs.HeadLaws.{length-head}
use Rattle.tls_extensions.proofs.put_list_head.Goals as goal

pub returns : goal.returns
returns c =
    let args = c.args in
    let put-head = c.put_head in
    let t = args.t.0 in
    let n = args.n in
    let head = filled (length-head t (2 + n)) put-head.ensures in
    (joined head (filled (length_digits 256 2 n) c.w16.ensures)).output
