-- All refusals come before the first store; when no question is answered "no" the hello has room. Assumes nothing.
use mathlib.Core.Path.{sym}
use lib.ListN.{length}
use Rattle.std.proofs.lemmas.Result.{err_from_is_err_and}
use Rattle.profiles.specs.Code.{profile_of}
use Rattle.tls.specs.Writing.{HelloRoom}
use Rattle.tls.proofs.NameLaws.{named}
use Rattle.tls.proofs.Sizes.{suffices, hello-fits}
use Rattle.tls.proofs.MakeLaws.{hello-room, refuses-name, refuses-room, makes-hello}
use native.Mathlib.Omega.{arith}
use Rattle.tls.proofs.making.make_with.Goals as goal
use Rattle.tls.proofs.making.make_with.Goals.{In_ok-ask_room}

pub returns-in_err-ask_name : goal.returns-in_err-ask_name
returns-in_err-ask_name c =
    let args = c.args in
    let p = err_from_is_err_and c.from_residual.result c.from_residual.ensures.1 in
    rw (p.1, p.2)
    (refuses-name (profile_of args.profile.now) args.name.now args.scid.now args.tape.now args.out.now _ (sym c.in_err-ask_name.ensures))

pub ask_room-requires : goal.ask_room-requires
ask_room-requires c = (c.requires, omega (arith, (named c.args.name.now (sym c.in_ok-ask_name.ensures)).short))

pub returns-in_err-ask_room : goal.returns-in_err-ask_room
returns-in_err-ask_room c =
    let args = c.args in
    let p = err_from_is_err_and c.from_residual-in_err-ask_room.result c.from_residual-in_err-ask_room.ensures.1 in
    rw (p.1, p.2)
    (refuses-room (profile_of args.profile.now) args.name.now args.scid.now args.tape.now args.out.now (sym c.in_ok-ask_name.ensures) _ (sym c.in_err-ask_room.ensures))

-- no question was answered "no"
room :
    (c : In_ok-ask_room) →
    let args = c.args in
    HelloRoom args.profile.now args.name.now args.scid.now args.tape.now (length args.out.now)
room c =
    let args = c.args in
    let p = profile_of args.profile.now in
    let name = args.name.now in
    let scid = args.scid.now in
    let tape = args.tape.now in
    hello-room args.profile.now name scid tape c.requires (sym c.in_ok-ask_name.ensures) (sym c.in_ok-ask_room.ensures) (suffices p name scid tape) (hello-fits p name scid tape)

pub put_hello-made-requires : goal.put_hello-made-requires
put_hello-made-requires c = room (goal.at.put_hello-made-requires c).In_ok-ask_room

pub returns : goal.returns
returns c =
    let args = c.args in
    makes-hello (profile_of args.profile.now) args.name.now args.scid.now args.tape.now args.out.now (sym c.in_ok-ask_name.ensures) (sym c.in_ok-ask_room.ensures)
    (room (goal.at.returns c).In_ok-ask_room).has c.put_hello-made.ensures
