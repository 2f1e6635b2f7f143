-- `find_word` keeps `Passing`: where the present word begins, and that the word asked for is as many words on. Assumes nothing.
use Rattle.script.proofs.WordLaws.{Passing}
use Rattle.script.proofs.words.find_word.Given as goal

abbrev pub invariant-loop : goal.invariant-loop
invariant-loop l = Passing l.line l.k l.counter l.start
