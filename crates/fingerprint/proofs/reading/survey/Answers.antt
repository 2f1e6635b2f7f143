-- A refusal of the head or of the walk is the reader's. Assumes nothing.
use Rattle.std.proofs.lemmas.Result.{err_from_is_err_and}
use Rattle.fingerprint.specs.Code.{HeadFound}
use Rattle.fingerprint.proofs.ReportLaws.{read-refused}
use Rattle.fingerprint.proofs.reading.survey.Goals as goal
use Rattle.fingerprint.proofs.reading.survey.Goals.{In_ok-head}

head : (c : In_ok-head) → HeadFound c.args.hello.now c.in_ok-head.head
head c = rw c.in_ok-head.was at c.read_head.ensures

pub returns-in_err-head : goal.returns-in_err-head
returns-in_err-head c =
    let p = err_from_is_err_and c.from_residual.result c.from_residual.ensures.1 in
    rw (p.1, p.2) (rw c.in_err-head.was at c.read_head.ensures)

pub survey_block-requires : goal.survey_block-requires
survey_block-requires c = let f = head (goal.at.survey_block-requires c).In_ok-head in (f.inside, f.short, c.requires.0, c.requires.1)

pub returns-in_err-found : goal.returns-in_err-found
returns-in_err-found c =
    let p = err_from_is_err_and c.from_residual-in_err-found.result c.from_residual-in_err-found.ensures.1 in
    rw (p.1, p.2) (read-refused (head (goal.at.returns-in_err-found c).In_ok-head) _ (rw c.in_err-found.was at c.survey_block.ensures))

pub returns : goal.returns
returns c = (head (goal.at.returns c).In_ok-head, rw c.in_ok-found.was at c.survey_block.ensures)
