-- `fill` keeps the bounds: what is read lies in the chunk. Assumes nothing.
use lib.ListN.{length}
use Rattle.script.proofs.InputLaws.{filled-held}
use Rattle.runner.proofs.fill.Goals as goal

pub returns : goal.returns
returns g c =
    let args = c.args in
    let read_Some = c.read_some in
    filled-held (length args.chunk.now) read_Some.result args.s c.fill.result c.fill.ensures read_Some.ensures
