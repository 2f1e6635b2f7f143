-- The shares are written first, and then the head over the front: `headed`. Assumes nothing.
use Prim.Native.Nat.{◌+◌, ◌≤◌}
use mathlib.Core.Path.{◌≡◌, sym, ◌∙◌}
use mathlib.Core.List.{map}
use lib.ListN.{length}
use Rattle.wire.proofs.Writing.{filled, headed, put_as}
use Rattle.profiles.specs.Code.{group_number}
use Rattle.tls_extensions.specs.Extensions.{key_shares, ext_key_share}
use Rattle.tls_extensions.proofs.LengthLaws.{length-around-shares}
use Rattle.tls_extensions.proofs.HeadLaws.{length-list-head, list-extension-is}
use native.Mathlib.Omega.{arith}
use Rattle.tls_extensions.proofs.ext_key_share.Goals as goal
use Rattle.tls_extensions.proofs.ext_key_share.Goals.{Start}

long : (c : Start)
    → let groups = map group_number c.args.groups.now in
    length (ext_key_share groups c.args.tape.now c.args.at).bytes ≡ 6 + length (key_shares groups c.args.tape.now c.args.at).bytes
long c = length-around-shares (map group_number c.args.groups.now) c.args.tape.now c.args.at

pub slice_bounds-put_key_shares-count : goal.slice_bounds-put_key_shares-count
slice_bounds-put_key_shares-count c = omega (arith, c.requires.fits, long (goal.at.slice_bounds-put_key_shares-count c).Start)

pub slice_bounds-put_key_shares-start : goal.slice_bounds-put_key_shares-start
slice_bounds-put_key_shares-start c = omega (arith, c.requires.fits, long (goal.at.slice_bounds-put_key_shares-start c).Start)

pub put_key_shares-w-requires : goal.put_key_shares-w-requires
unfolding ext_key_share
put_key_shares-w-requires c =
    let start = (goal.at.put_key_shares-w-requires c).Start in
    let room = start.requires in
    let size = long start in
    record { fits = omega (arith, room.fits, size); small = omega (arith, room.small, size); there = room.there }

pub put_list_head-requires : goal.put_list_head-requires
put_list_head-requires c =
    let start = (goal.at.put_list_head-requires c).Start in
    let room = start.requires in
    let size = long start in
    let count = c.put_key_shares-w.ensures.put.count in
    (omega (arith, room.fits, size), omega (arith, room.small, size, count))

pub overflow_add-result : goal.overflow_add-result
overflow_add-result c =
    let start = (goal.at.overflow_add-result c).Start in
    omega (arith, start.requires.small, long start, c.put_key_shares-w.ensures.put.count)

pub returns : goal.returns
unfolding ext_key_share
returns c =
    let start = (goal.at.returns c).Start in
    let old = start.args.out.now in
    let shares = key_shares (map group_number start.args.groups.now) start.args.tape.now start.args.at in
    let size = long start in
    let w = c.put_key_shares-w in
    let put = w.ensures.put in
    let n = w.result.length in
    let fits : 6 + length shares.bytes ≤ length old = omega (arith, start.requires.fits, size) in
    let whole = c.put_list_head.ensures ∙ headed _ shares.bytes old w.new.out (length-list-head 51 n) fits put.output in
    let is = list-extension-is 2 51 n shares.bytes (sym put.count) in
    record { put = put_as is (filled (rw (is, put.count) size) whole); next = w.ensures.next }
