-- `say_frames` says what the frame writer answers, with the buffer as it left it, and hands back the frames. Assumes nothing.
use mathlib.Core.Path.{◌≡◌, sym}
use native.Mathlib.Omega.{arith}
use mathlib.Core.List.{[], ◌∷◌}
use lib.ListN.{take, length as length_of}
use Rattle.wire.specs.Answer.{result, refused}
use Rattle.wire.specs.Refusals.{question}
use Rattle.frames.specs.Cut.{frames_of, cut_of}
use Rattle.frames.proofs.Results.{frames-taken}
use Rattle.script.specs.Scan.{space}
use Rattle.script_writing.specs.Decimal.{decimal_text}
use Rattle.script_writing.specs.Shown.{shown_text}
use Rattle.answers.specs.Answers.{length_word}
use Rattle.answers.proofs.AnswerLaws.{refused-hands, hands-back, front-part}
use Rattle.answers.proofs.say_frames.Goals as goal

pub slice_bounds-put_text-end : goal.slice_bounds-put_text-end
slice_bounds-put_text-end c =
    let write-frames = c.write_frames in
    omega (arith, rw c.in-Ok.is at write-frames.ensures.bounds)

pub returns-in-Ok : goal.returns-in-Ok
returns-in-Ok c =
    let args = c.args in
    let cut = c.write_frames in
    let put = c.put_all-n in
    let kept = c.put_text in
    let n = c.in-Ok.length in
    let e : result n ≡ cut_of args.c args.hello.now (length_of args.buffer.now) = rw c.in-Ok.is at cut.ensures.is in
    let taken : take n cut.new.out ≡ frames_of args.c args.hello.now = rw cut.ensures.output (frames-taken args.c args.hello.now args.buffer.now n (sym e)) in
    rw (← e, ← cut.ensures.output) (hands-back (length_word ∷ decimal_text n ∷ (space ∷ []) ∷ shown_text cut.new.out ∷ []) put.result args.out.now put.new.out put.ensures args.last.now (frames_of args.c args.hello.now) kept.result kept.new.out (rw (front-part n cut.new.out (frames_of args.c args.hello.now) taken) at kept.ensures))

pub returns-in-Err : goal.returns-in-Err
returns-in-Err c =
    let args = c.args in
    let cut = c.write_frames in
    let e : refused (question c.in-Err.refusal) ≡ cut_of args.c args.hello.now (length_of args.buffer.now) = rw c.in-Err.is at cut.ensures.is in
    rw (← e, ← cut.ensures.output) (refused-hands _ _ c.refuse_with.result args.out.now c.refuse_with.new.out args.last.now c.refuse_with.ensures)
