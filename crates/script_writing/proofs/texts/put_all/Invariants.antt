-- `put_all`: the parts before the part stand in the output. Assumes nothing.
use mathlib.Core.List.{map}
use lib.ListN.{take}
use Rattle.script_writing.specs.Answers.{WrittenAll}
use Rattle.script_writing.specs.Parts.{part_text}
use Rattle.script_writing.proofs.texts.put_all.Given as goal

abbrev pub invariant-loop-part : goal.invariant-loop-part
invariant-loop-part l = WrittenAll (map part_text (take l.part-index l.parts)) l.at l.initial.out l.out
