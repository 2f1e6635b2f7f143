-- `put_all`: the parts before the part stand in the output. Assumes nothing.
use mathlib.Core.Path.{sym}
use Rattle.std.proofs.lemmas.List.{map_more}
use Rattle.script_writing.specs.Parts.{part_text}
use Rattle.script_writing.proofs.AnswerLaws.{all-as, written_none, written_one, written_then}
use Rattle.script_writing.proofs.texts.put_all.Goals as goal

pub loop-part-init : goal.loop-part-init
loop-part-init c = written_none c.args.out.now

pub loop-part-preserved : goal.loop-part-preserved
loop-part-preserved c =
    let l = c.loop-part in
    let put = c.put_part-at in
    all-as _ _ _ _ _ (sym (map_more part_text c.args.parts.now l.part-index _ c.loop-part-test.true))
    (written_then l.invariant (written_one _ put.result _ put.new.out put.ensures))
