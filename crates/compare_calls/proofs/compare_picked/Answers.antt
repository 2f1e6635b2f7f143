-- The report is that of the reader, and so is the number of a refusal. Assumes nothing.
use Rattle.std.proofs.Common.{ap, ◌∙◌}
use Rattle.wire.specs.Answer.{Answer}
use Rattle.fingerprint.specs.declared.Fingerprint.{Fingerprint}
use Rattle.fingerprint.specs.Reader.{read}
use Rattle.fingerprint.specs.Report.{parsed_of}
use Rattle.compare_calls.specs.Reading.{picked_of}
use Rattle.compare_calls.proofs.ReadingLaws.{no_place, picked-result, picked-refused}
use Rattle.compare_calls.proofs.compare_picked.Goals as goal

pub returns-then-place-ge16 : goal.returns-then-place-ge16
returns-then-place-ge16 c = no_place (parsed_of (read c.args.hello.now)) c.args.place c.if-place-ge16.true

pub returns-in-Ok : goal.returns-in-Ok
returns-in-Ok c =
    let place = c.args.place in
    c.picked.ensures
    ∙ picked-result place c.if-place-ge16.false c.in-Ok.report
    ∙ ap (λ (a : Answer Fingerprint). picked_of a place) (rw c.in-Ok.is at c.parse_clienthello.ensures.is)

pub returns-in-Err : goal.returns-in-Err
returns-in-Err c =
    let place = c.args.place in
    c.number.ensures.is
    ∙ picked-refused place c.if-place-ge16.false _
    ∙ ap (λ (a : Answer Fingerprint). picked_of a place) (rw c.in-Err.is at c.parse_clienthello.ensures.is)
