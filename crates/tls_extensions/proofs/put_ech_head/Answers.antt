-- The head, and six bytes to the part after it. Assumes nothing.
use Rattle.wire.proofs.Writing.{filled, joined}
use Rattle.tls_extensions.proofs.HeadLaws.{length-head}
use Rattle.tls_extensions.proofs.put_ech_head.Goals as goal

pub returns : goal.returns
returns c =
    let args = c.args in
    let put-head = c.put_head in
    let head = filled (length-head 65037 args.n) put-head.ensures in
    (joined head c.put_bytes.ensures).output
