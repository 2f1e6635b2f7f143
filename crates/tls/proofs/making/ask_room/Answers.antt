-- The tests are the questions, in their order; the sums are those that `Sound` names. Assumes nothing.
use borrow.Author.Tests.{le-leb, lt-leb}
use Rattle.tls.specs.Make.{ask_room}
use Rattle.tls.proofs.making.ask_room.Goals as goal

pub returns-then-scid-gt20 : goal.returns-then-scid-gt20
unfolding ask_room
returns-then-scid-gt20 c = simp (lt-leb _ _ c.if-scid-gt20.true)

pub returns-then-tape-profile : goal.returns-then-tape-profile
unfolding ask_room
returns-then-tape-profile c =
    let if1 = c.if-scid-gt20 in
    let pre = c.requires in
    simp (le-leb _ _ if1.false, lt-leb _ _ (rw pre.0.tape at c.if-tape-profile.true))

pub returns-then-room-profile : goal.returns-then-room-profile
unfolding ask_room
returns-then-room-profile c =
    let pre = c.requires in
    let if1 = c.if-scid-gt20 in
    let if2 = c.if-tape-profile in
    let args = c.args in
    let all = pre.0.longest-is args.name args.scid if1.false in
    simp (le-leb _ _ if1.false, le-leb _ _ (rw pre.0.tape at if2.false), lt-leb _ _ (rw all at c.if-room-profile.true))

pub returns : goal.returns
unfolding ask_room
returns c =
    let pre = c.requires in
    let if1 = c.if-scid-gt20 in
    let if2 = c.if-tape-profile in
    let args = c.args in
    let all = pre.0.longest-is args.name args.scid if1.false in
    simp (le-leb _ _ if1.false, le-leb _ _ (rw pre.0.tape at if2.false), le-leb _ _ (rw all at c.if-room-profile.false))
