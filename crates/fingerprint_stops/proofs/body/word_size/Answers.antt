-- A number of 16 bits takes two bytes. Assumes nothing.
use native.Mathlib.Omega.{arith}
use Rattle.fingerprint_stops.proofs.EntryLaws.{word-short, word-there}
use Rattle.fingerprint_stops.proofs.body.word_size.Goals as goal

pub returns-then-rest-lt2 : goal.returns-then-rest-lt2
returns-then-rest-lt2 c = word-short c.args.rest.now c.if-rest-lt2.true

pub returns-else-rest-lt2 : goal.returns-else-rest-lt2
returns-else-rest-lt2 c = (word-there c.args.rest.now c.if-rest-lt2.false, omega arith)
