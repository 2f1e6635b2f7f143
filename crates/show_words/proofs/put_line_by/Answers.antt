-- `put_line_by` meets its contract: place, bytes, words and, where it is marked, the reason, one after the other. Assumes nothing.
use mathlib.Core.Path.{refl, ap, ◌∙◌}
use Rattle.script_writing.proofs.AnswerLaws.{written-more}
use Rattle.show_lines.specs.Lines.{row}
use Rattle.wire.specs.Stops.{stopped}
use Rattle.show_marks.specs.Text.{stop_by}
use Rattle.show_words.proofs.LineLaws.{marks-by, least-bytes, line_plain, line_marked, none-marked}
use Rattle.show_words.proofs.put_line_by.Goals as goal

pub returns-in-Some : goal.returns-in-Some
returns-in-Some c what =
    let args = c.args in
    let h = args.input.now in
    let spot = args.spot in
    let s = c.in-Some.field-0 in
    let mark = c.is_marked-marked in
    let end = c.min-end in
    let bytes = least-bytes h spot.at spot.past end.result end.ensures in
    let marked = mark.ensures ∙ marks-by args.number args.stop spot.at spot.past 0 what in
    let words = c.put_phrase.ensures in
    let front = written-more _ _ _ _ _ _ _ _ c.put_front-n.ensures refl words.is in
    let reason = c.put_reason.ensures in
    line_marked spot.digits h (stop_by args.number args.stop) (row spot.at spot.past what) _ bytes mark.result marked
    (stopped args.number s.place) (ap (stop_by args.number) c.in-Some.is)
    words.parts reason.words c.if-marked.true (written-more _ _ _ _ _ _ _ _ front refl reason.is)

pub returns-in_default : goal.returns-in_default
returns-in_default c what =
    let args = c.args in
    let h = args.input.now in
    let spot = args.spot in
    let mark = c.is_marked-marked in
    let end = c.min-end in
    let bytes = least-bytes h spot.at spot.past end.result end.ensures in
    let marked = mark.ensures ∙ marks-by args.number args.stop spot.at spot.past 0 what in
    let words = c.put_phrase.ensures in
    let front = written-more _ _ _ _ _ _ _ _ c.put_front-n.ensures refl words.is in
    line_plain spot.digits h (stop_by args.number args.stop) (row spot.at spot.past what) _ bytes mark.result marked words.parts c.if-marked.false front

pub returns-in_default-2 : goal.returns-in_default-2
returns-in_default-2 c what =
    let args = c.args in
    let h = args.input.now in
    let spot = args.spot in
    let mark = c.is_marked-marked in
    let end = c.min-end in
    let bytes = least-bytes h spot.at spot.past end.result end.ensures in
    let marked = mark.ensures ∙ marks-by args.number args.stop spot.at spot.past 0 what in
    let words = c.put_phrase.ensures in
    let front = written-more _ _ _ _ _ _ _ _ c.put_front-n.ensures refl words.is in
    let row = row spot.at spot.past what in
    let plain = none-marked mark.result (stop_by args.number args.stop) row (ap (stop_by args.number) c.in_default.is) marked in
    line_plain spot.digits h (stop_by args.number args.stop) row _ bytes mark.result marked words.parts plain front
