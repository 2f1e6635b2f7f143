-- `script::reading::read_given` meets its contract: the bytes are copied where they fit. Assumes nothing.
use Rattle.script.proofs.PieceLaws.{read-bytes, read-too-long}
use Rattle.script.proofs.reading.read_given.Goals as goal

pub returns-then-out-given : goal.returns-then-out-given
returns-then-out-given c =
    let start = c in
    read-too-long start.args.given.now start.args.out.now c.if-out-given.true

pub returns : goal.returns
returns c =
    let start = c in
    read-bytes start.args.given.now c.put_bytes.result start.args.out.now
    c.put_bytes.new.out c.if-out-given.false c.put_bytes.ensures.count
    c.put_bytes.ensures.output
