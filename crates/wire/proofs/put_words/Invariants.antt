-- The loop keeps `Writing`: the numbers before place i stand in the output. Assumes nothing.
use Prim.Native.Nat.{◌*◌}
use mathlib.Core.List.{map}
use lib.ListN.{drop}
use Rattle.wire.specs.Vectors.{words}
use Rattle.wire.proofs.Writing.{Writing}
use Rattle.wire.proofs.put_words.Given as goal

abbrev pub invariant-loop-i : goal.invariant-loop-i
invariant-loop-i g l =
    let numbers = map g.T.Word.word l.values in
    Writing (words numbers) (words (drop l.i numbers)) l.initial.out l.out (2 * l.i)
