-- `width` meets its contract: a number has one digit more than its logarithm. Assumes nothing.
use mathlib.Core.Path.{◌≡◌, sym}
use mathlib.Core.Logic.{⊎_elim}
use native.Mathlib.Omega.{arith}
use Rattle.wire.proofs.ListLaws.{lt-or-le}
use Rattle.script_writing.proofs.DigitLaws.{places-log, places-small}
use Rattle.script_writing.proofs.numbers.width.Goals as goal

pub returns-in-Some-clause-is : goal.returns-in-Some-clause-is
returns-in-Some-clause-is g c =
    let log = c.in-Some.ensures in
    places-log g.row.BASE 64 c.args.n c.in-Some.k (omega arith) (omega (arith, log.bound)) log.power_le log.next_power_gt

pub returns-in-None-clause-is : goal.returns-in-None-clause-is
returns-in-None-clause-is g c =
    let none : c.args.n ≡ 0 = ⊎_elim (λ p. absurd (cc (c.in-None.ensures.variant.1 (p, omega arith)))) (λ q. omega arith) (lt-or-le 0 c.args.n) in
    sym (places-small g.row.BASE 63 c.args.n (omega arith))
