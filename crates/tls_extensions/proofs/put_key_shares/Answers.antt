-- The loop keeps `Drawing`: the shares before place i stand, and the next one draws where the last stopped. Assumes nothing.
use Prim.Native.Nat.{◌+◌}
use mathlib.Core.Path.{◌≡◌, refl}
use mathlib.Core.List.{map}
use Rattle.profiles.specs.Code.{group_number}
use lib.ListN.{length, drop, get_or, length-map, get_or-map}
use lib.Seq.{drop-length}
use Rattle.profiles.specs.Sizes.{key_draws}
use Rattle.tape.specs.Part.{followed}
use Rattle.tape.proofs.PartLaws.{Drawing, starts, same-part, part_room, part-next, part-finished}
use Rattle.tls_extensions.specs.Extensions.{key_share, key_shares}
use Rattle.tls_extensions.proofs.LengthLaws.{length-key-share}
use Rattle.tls_extensions.proofs.ShareLaws.{shares-from, shares-rise}
use native.Mathlib.Omega.{arith}
use Rattle.tls_extensions.proofs.put_key_shares.Goals as goal
use Rattle.tls_extensions.proofs.put_key_shares.Goals.{In-loop-group}

-- the share of the group at place i is next
here :
    (c : In-loop-group) →
    let args = c.args in
    let groups = map group_number args.groups.now in
    let tape = args.tape.now in
    let loop = c.loop-group in
    let share = key_share (get_or groups loop.group-index 0) tape loop.next in
    Drawing (key_shares groups tape args.at) (followed share (key_shares (drop (loop.group-index + 1) groups) tape)) args.out.now loop.out loop.n
here c =
    let args = c.args in
    let loop = c.loop-group in
    let groups = map group_number args.groups.now in
    let long = length-map args.groups.now group_number in
    same-part (shares-from groups args.tape.now loop.group-index loop.next (omega (arith, long, c.loop-group-test.true))) loop.invariant

-- the group there is the array's
group-is :
    (c : In-loop-group) →
    let args = c.args in
    let i = c.loop-group.group-index in
    get_or (map group_number args.groups.now) i 0 ≡ (get_or args.groups.now i (record { 0 = 0 })).0
group-is c = get_or-map group_number c.args.groups.now c.loop-group.group-index (record { 0 = 0 })

pub loop-group-init : goal.loop-group-init
loop-group-init c = starts _ c.args.out.now c.requires.fits

pub put_key_share-w-requires : goal.put_key_share-w-requires
unfolding key_share
put_key_share-w-requires c =
    let in-loop = (goal.at.put_key_share-w-requires c).In-loop-group in
    let start = in-loop in
    let groups = map group_number start.args.groups.now in
    let tape = start.args.tape.now in
    let loop = in-loop.loop-group in
    let g = get_or groups loop.group-index 0 in
    let later = drop (loop.group-index + 1) groups in
    let room = part_room (key_share g tape loop.next) (key_shares later tape) (here in-loop) start.requires (shares-rise later tape (loop.next + key_draws g)) in
    rw (← (group-is in-loop)) (omega (arith, room.fits, length-key-share g tape loop.next), room.there)

pub overflow_add-n : goal.overflow_add-n
overflow_add-n c =
    let in-loop = (goal.at.overflow_add-n c).In-loop-group in
    let args = c.args in
    let groups = map group_number args.groups.now in
    let loop = c.loop-group in
    let written = rw (← (group-is in-loop)) at c.put_key_share-w.ensures in
    let drawn = part-next (key_share (get_or groups loop.group-index 0) args.tape.now loop.next) (key_shares (drop (loop.group-index + 1) groups) args.tape.now) (here in-loop) written in
    omega (arith, drawn.writing.within, c.requires.small)

pub loop-group-preserved : goal.loop-group-preserved
loop-group-preserved c =
    let in-loop = (goal.at.loop-group-preserved c).In-loop-group in
    let args = c.args in
    let groups = map group_number args.groups.now in
    let loop = c.loop-group in
    let written = rw (← (group-is in-loop)) at c.put_key_share-w.ensures in
    part-next (key_share (get_or groups loop.group-index 0) args.tape.now loop.next) (key_shares (drop (loop.group-index + 1) groups) args.tape.now) (here in-loop) written

pub returns : goal.returns
unfolding key_shares
returns c =
    let args = c.args in
    let groups = map group_number args.groups.now in
    let loop = c.loop-group in
    let long = length-map args.groups.now group_number in
    let all : loop.group-index ≡ length groups = omega (arith, long) in
    part-finished (same-part (rw (all, drop-length groups) refl) loop.invariant)
