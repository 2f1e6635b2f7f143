-- `say_join` says what the joiner answers, with both buffers as it left them, and hands back the stream. Assumes nothing.
use mathlib.Core.Path.{◌≡◌, sym}
use Prim.Native.Nat.{◌≤◌}
use native.Mathlib.Omega.{arith}
use mathlib.Core.List.{[], ◌∷◌, ◌++◌}
use lib.ListN.{take}
use Rattle.wire.specs.Answer.{result, refused}
use Rattle.wire.specs.Refusals.{question}
use Rattle.frames.specs.Join.{join, join_of, placed_of}
use Rattle.frames.proofs.Results.{end-within, stream-taken}
use Rattle.script.specs.Scan.{space}
use Rattle.script_writing.specs.Decimal.{decimal_text}
use Rattle.script_writing.specs.Shown.{shown_text}
use Rattle.answers.specs.Answers.{end_word, refused_word}
use Rattle.answers.proofs.AnswerLaws.{hands-refused, hands-back, front-part}
use Rattle.answers.proofs.say_join.Goals as goal

pub slice_bounds-put_text-end : goal.slice_bounds-put_text-end
slice_bounds-put_text-end c =
    let joined = c.reassemble_crypto in
    let args = c.args in
    let e : result c.in-Ok.end ≡ join_of args.frames.now args.buffer.now args.marks.now = rw c.in-Ok.is at joined.ensures.is in
    let b : c.in-Ok.end ≤ 16384 = rw c.in-Ok.is at joined.ensures.bounds in
    omega (arith, end-within args.frames.now args.buffer.now args.marks.now c.in-Ok.end (sym e) b, joined.auto)

pub returns-in-Ok : goal.returns-in-Ok
returns-in-Ok c =
    let args = c.args in
    let joined = c.reassemble_crypto in
    let put = c.put_buffers-n in
    let kept = c.put_text in
    let n = c.in-Ok.end in
    let e : result n ≡ join_of args.frames.now args.buffer.now args.marks.now = rw c.in-Ok.is at joined.ensures.is in
    let taken : take n joined.new.out ≡ placed_of (join args.frames.now) = rw joined.ensures.output (stream-taken args.frames.now args.buffer.now args.marks.now n (sym e)) in
    rw (← e, ← joined.ensures.output, ← joined.ensures.marked) (hands-back ((end_word ++ (space ∷ [])) ∷ decimal_text n ∷ (space ∷ []) ∷ shown_text joined.new.out ∷ (space ∷ []) ∷ shown_text joined.new.marks ∷ []) put.result args.out.now put.new.out put.ensures args.last.now (placed_of (join args.frames.now)) kept.result kept.new.out (rw (front-part n joined.new.out (placed_of (join args.frames.now)) taken) at kept.ensures))

pub returns-in-Err : goal.returns-in-Err
returns-in-Err c =
    let args = c.args in
    let joined = c.reassemble_crypto in
    let put = c.put_buffers-n-in-Err in
    let k = question c.in-Err.refusal in
    let e : refused k ≡ join_of args.frames.now args.buffer.now args.marks.now = rw c.in-Err.is at joined.ensures.is in
    rw (← e, ← joined.ensures.output, ← joined.ensures.marked) (hands-refused (refused_word ∷ decimal_text k ∷ (space ∷ []) ∷ shown_text joined.new.out ∷ (space ∷ []) ∷ shown_text joined.new.marks ∷ []) put.result args.out.now put.new.out (rw c.number.ensures.is at put.ensures) args.last.now c.in-Err.refusal)
