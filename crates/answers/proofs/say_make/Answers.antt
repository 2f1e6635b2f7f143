-- `say_make` says what the maker answers, with the buffer as it left it, and hands back the hello. Assumes nothing.
use mathlib.Core.Path.{◌≡◌, sym}
use native.Mathlib.Omega.{arith}
use mathlib.Core.List.{[], ◌∷◌}
use lib.ListN.{length, take}
use Rattle.wire.specs.Answer.{result, refused}
use Rattle.wire.specs.Refusals.{question}
use Rattle.tls.specs.Make.{make_of, made_bytes}
use Rattle.tls.proofs.Results.{hello-taken}
use Rattle.script.specs.Scan.{space}
use Rattle.script_writing.specs.Decimal.{decimal_text}
use Rattle.script_writing.specs.Shown.{shown_text}
use Rattle.answers.specs.Answers.{length_word, drawn_word}
use Rattle.answers.proofs.AnswerLaws.{refused-hands, hands-back, front-part}
use Rattle.answers.proofs.say_make.Goals as goal

pub slice_bounds-put_text-end : goal.slice_bounds-put_text-end
slice_bounds-put_text-end c =
    let made = c.generate_client_hello in
    omega (arith, (rw c.in-Ok.is at made.ensures.bounds).0)

pub returns-in-Ok : goal.returns-in-Ok
returns-in-Ok c =
    let args = c.args in
    let made = c.generate_client_hello in
    let put = c.put_all-n in
    let kept = c.put_text in
    let h = c.in-Ok.hello in
    let bytes = made_bytes args.profile args.name.now args.scid.now args.tape.now in
    let buffer = made.new.out in
    let e : result h ≡ make_of args.profile args.name.now args.scid.now args.tape.now (length args.buffer.now) = rw c.in-Ok.is at made.ensures.is in
    let taken : take h.length buffer ≡ bytes = rw made.ensures.output (hello-taken args.profile args.name.now args.scid.now args.tape.now args.buffer.now h (sym e)) in
    rw (← e, ← made.ensures.output) (hands-back (length_word ∷ decimal_text h.length ∷ (space ∷ drawn_word) ∷ decimal_text h.drawn ∷ (space ∷ []) ∷ shown_text buffer ∷ []) put.result args.out.now put.new.out put.ensures args.last.now bytes kept.result kept.new.out (rw (front-part h.length buffer bytes taken) at kept.ensures))

pub returns-in-Err : goal.returns-in-Err
returns-in-Err c =
    let args = c.args in
    let made = c.generate_client_hello in
    let e : refused (question c.in-Err.refusal) ≡ make_of args.profile args.name.now args.scid.now args.tape.now (length args.buffer.now) = rw c.in-Err.is at made.ensures.is in
    rw (← e, ← made.ensures.output) (refused-hands _ _ c.refuse_with.result args.out.now c.refuse_with.new.out args.last.now c.refuse_with.ensures)
