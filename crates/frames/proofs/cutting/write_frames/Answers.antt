-- `write_frames` meets its promise: all refusals come before the first store. Assumes nothing.
use Rattle.frames.proofs.CutLaws.{refuses-width, refuses-hello, refuses-room, cuts}
use Rattle.frames.proofs.cutting.write_frames.Goals as goal

pub returns-then-c-lt1 : goal.returns-then-c-lt1
returns-then-c-lt1 c = refuses-width c.args.c c.args.hello.now c.args.out.now c.then-c-lt1.either

pub returns-then-hello-gt-LIMIT : goal.returns-then-hello-gt-LIMIT
returns-then-hello-gt-LIMIT c =
    let args = c.args in
    let if1 = c.if-c-lt1 in
    refuses-hello args.c args.hello.now args.out.now if1.false c.if-c.false c.if-hello-gt-LIMIT.true

pub returns-then-out-frames_length : goal.returns-then-out-frames_length
returns-then-out-frames_length c =
    let args = c.args in
    let if1 = c.if-c-lt1 in
    let if2 = c.if-c in
    let if3 = c.if-hello-gt-LIMIT in
    refuses-room args.c args.hello.now args.out.now if1.false if2.false if3.false (rw c.frames_length.ensures at c.if-out-frames_length.true)

pub returns : goal.returns
returns c =
    let frames-length = c.frames_length in
    let if4 = c.if-out-frames_length in
    let args = c.args in
    let if1 = c.if-c-lt1 in
    let if2 = c.if-c in
    let if3 = c.if-hello-gt-LIMIT in
    let put-frames = c.put_frames in
    let room = rw frames-length.ensures at if4.false in
    cuts args.c args.hello.now args.out.now if1.false if2.false if3.false _ _ room put-frames.ensures
