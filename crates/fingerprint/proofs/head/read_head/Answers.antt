-- `read_head` goes on from the fields: more than 64 suites are refused. Assumes nothing.
use Rattle.std.proofs.lemmas.Result.{err_from_is_err_and}
use Rattle.fingerprint.specs.Code.{FieldsFound}
use Rattle.fingerprint.proofs.HeadAnswers.{many-suites, head-there, fields-refused}
use Rattle.fingerprint.proofs.head.read_head.Goals as goal
use Rattle.fingerprint.proofs.head.read_head.Goals.{In_ok-head}

found : (c : In_ok-head) → FieldsFound c.args.hello.now c.in_ok-head.head
found c = rw c.in_ok-head.was at c.read_fields.ensures

pub returns-in_err-head : goal.returns-in_err-head
returns-in_err-head c =
    let p = err_from_is_err_and c.from_residual.result c.from_residual.ensures.1 in
    rw (p.1, p.2) (fields-refused c.args.hello.now _ (rw c.in_err-head.was at c.read_fields.ensures))

pub returns-then-head-gt128 : goal.returns-then-head-gt128
returns-then-head-gt128 c = many-suites (found (goal.at.returns-then-head-gt128 c).In_ok-head) c.if-head-gt128.true

pub returns : goal.returns
returns c = head-there (found (goal.at.returns c).In_ok-head) c.if-head-gt128.false
