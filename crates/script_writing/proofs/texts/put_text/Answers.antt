-- `script_writing::texts::put_text` meets its contract: the bytes are copied where they fit. Assumes nothing.
use Rattle.script_writing.proofs.ShownLaws.{written, not_written}
use Rattle.script_writing.proofs.texts.put_text.Goals as goal

pub returns-then-out-text : goal.returns-then-out-text
returns-then-out-text c =
    let start = c in
    not_written start.args.text.now start.args.out.now c.if-out-text.true

pub returns : goal.returns
returns c =
    let start = c in
    written start.args.text.now c.put_bytes.result start.args.out.now c.put_bytes.new.out
    c.if-out-text.false c.put_bytes.ensures.count
    c.put_bytes.ensures.output
