-- The first line, settled. Assumes nothing.
use mathlib.Core.Path.{ap}
use Rattle.show_lines.specs.Lines.{Cursor, start}
use Rattle.show_lines.proofs.LineLaws.{start-ready}
use Rattle.show_lines.proofs.cursor.start.Goals as goal

pub returns : goal.returns
unfolding start
returns c =
    let e = c.settle.ensures in
    (e, rw e (start-ready c.args.hello.now), ap (λ (d : Cursor). d.at) e)
