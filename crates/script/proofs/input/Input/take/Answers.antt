-- `take` moves what stands before the line feed, by `took`. Assumes nothing.
use Rattle.std.proofs.Common.{ℕ, length, ap, ◌∙◌, zero-le}
use Rattle.std.specs.Prelude.{Option}
use Rattle.std.specs.Option.{unwrap_or}
use Rattle.script.specs.Input.{line_feed, pending}
use Rattle.script.proofs.ScanLaws.{find-or}
use Rattle.script.proofs.InputLaws.{took}
use Rattle.script.proofs.input.Input.take.Goals as goal

pub returns : goal.returns
returns c =
    let args = c.args in
    let append = c.append-longer in
    let s = pending args.chunk.now args.self in
    took args.chunk.now args.line.now args.self c.requires c.unwrap_or-n.result
    (c.unwrap_or-n.ensures ∙ ap (λ (r : Option ℕ). unwrap_or r (length s)) c.find.ensures.is ∙ find-or s 0 line_feed zero-le)
    append.result c.pass.result append.new.line append.ensures c.pass.ensures
