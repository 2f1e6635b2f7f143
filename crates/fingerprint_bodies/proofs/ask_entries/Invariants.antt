-- `ask_entries` counts the entries: k so far and those still to come are all of them. Assumes nothing.
use lib.ListN.{drop}
use Rattle.fingerprint_bodies.proofs.EntryLaws.{Counting}
use Rattle.fingerprint_bodies.proofs.ask_entries.Given as goal

abbrev pub invariant-loop-k : goal.invariant-loop-k
invariant-loop-k g l = Counting g.E.Listed.form (drop 2 l.body) l.k l.entries.rest.now
