-- `alike::counts::same_counts` meets its contract: lists of two lengths differ, and of one length one pass is enough. Assumes nothing.
use mathlib.Core.Path.{◌∙◌}
use Rattle.alike.proofs.LengthLaws.{one-pass, lengths_differ}
use Rattle.alike.proofs.counts.same_counts.Goals as goal

pub returns-then-a-b : goal.returns-then-a-b
returns-then-a-b c =
    let args = c.args in
    lengths_differ args.a.now args.b.now c.if-a-b.true

pub returns : goal.returns
returns c =
    let args = c.args in
    c.equally_often.ensures ∙ one-pass args.a.now args.b.now c.if-a-b.false
