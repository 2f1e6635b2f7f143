-- The refusal as one number. Assumes nothing.
use native.Mathlib.Omega.{arith}
use Rattle.wire.specs.Refusals.{question}
use Rattle.fingerprint.specs.Reader.{read}
use Rattle.fingerprint.proofs.Accepted.{read-numbered}
use Rattle.crustdelta_c.proofs.ReadLaws.{refusal-bound, none-refused, one-refused}
use Rattle.crustdelta_c.proofs.crustdelta_read.Goals as goal

pub returns-in-None : goal.returns-in-None
returns-in-None c = let h = c.args.hello.now in none-refused (read h) (read-numbered h) c.in-None.ensures

-- by the numbers that the reader may answer: a body that changes none of them passes, and one that does is refused for it
pub returns-in-Some : goal.returns-in-Some
returns-in-Some c =
    let h = c.args.hello.now in
    let some = c.in-Some in
    let bound = refusal-bound (question some.refusal) (read h) (read-numbered h) some.ensures in
    omega (arith, c.coded.ensures, one-refused (read h) some.refusal some.ensures, bound)
