-- `fill_digits` meets its contract: the digits of what is left, and then those written, are the number's digits. Assumes nothing.
use Rattle.script_writing.specs.Hex.{hex_letter}
use Rattle.script_writing.proofs.DigitLaws.{Filling}
use Rattle.script_writing.proofs.numbers.fill_digits.Given as goal

abbrev pub invariant-loop-k : goal.invariant-loop-k
invariant-loop-k g l = Filling g.row.BASE hex_letter l.n l.initial.part l.part l.rest l.k
