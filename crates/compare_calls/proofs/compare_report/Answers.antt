-- The answer of the command `report` as one number. Assumes nothing.
use Rattle.fingerprint.specs.Reader.{read}
use Rattle.compare_calls.proofs.ReadingLaws.{report-coded}
use Rattle.compare_calls.proofs.compare_report.Goals as goal

pub returns-in-Refused : goal.returns-in-Refused
returns-in-Refused c = rw c.coded.ensures (rw c.in-Refused.is at (report-coded (read c.args.hello.now) c.say_report.ensures))
