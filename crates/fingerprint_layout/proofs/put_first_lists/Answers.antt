-- Zeros are written, and over them each list in its place. Assumes nothing.
use Prim.Native.Nat.{◌≤◌}
use mathlib.Core.Path.{refl, ap}
use mathlib.Core.List.{map}
use lib.ListN.{length}
use Rattle.wire.proofs.Writing.{put_as}
use Rattle.fingerprint_bodies.specs.Body as value
use Rattle.fingerprint_bodies.specs.Forms.{words_in, group_of}
use Rattle.fingerprint_lists.proofs.WalkLaws.{share_groups, groups-few}
use Rattle.fingerprint.proofs.NameLaws.{length-part-of}
use Rattle.fingerprint_layout.proofs.PlaceLaws.{words-first, words-next, over-end}
use Rattle.fingerprint_layout.proofs.PieceLaws.{plainly}
use Rattle.fingerprint_layout.proofs.FoundLaws.{few_words, groups-held, shares-held, words-fit, words-put, groups-fit, groups-put}
use Rattle.fingerprint_layout.proofs.WrittenLaws.{first-parts}
use native.Mathlib.Omega.{arith}
use Rattle.fingerprint_layout.proofs.put_first_lists.Goals as goal
use Rattle.fingerprint_layout.proofs.put_first_lists.Goals.{After-part}

few-suites : (c : After-part) → length c.part.result.now ≤ 128
few-suites c =
    let args = c.args in
    let pre = c.requires in
    omega (arith, ap length c.part.ensures, length-part-of args.hello.now args.head.suites pre.1.suites-inside, pre.1.suites-few)

pub put_list-suites-requires : goal.put_list-suites-requires
put_list-suites-requires c =
    let pre = c.requires in
    omega (arith, words-fit c.part.result.now (few-suites c), c.clear.auto, pre.0)

pub part-requires-2 : goal.part-requires-2
part-requires-2 c =
    let pre = c.requires in
    rw c.body.ensures (pre.1.inside value.groups)

pub put_list-groups-requires : goal.put_list-groups-requires
put_list-groups-requires c =
    let pre = c.requires in
    let put-numbers = c.put_numbers in
    let g = groups-held pre.1 (rw c.body.ensures at c.part-2.ensures) c.after.ensures in omega (arith, words-fit c.after.result.now g.few, put-numbers.auto)

pub part-requires-3 : goal.part-requires-3
part-requires-3 c =
    let pre = c.requires in
    rw c.body-2.ensures (pre.1.inside value.shares)

pub put_list-shares-requires : goal.put_list-shares-requires
put_list-shares-requires c =
    let pre = c.requires in
    let clear = c.clear in
    let put-list = c.put_list-suites in
    let put-numbers = c.put_numbers in
    let put-list2 = c.put_list-groups in
    let found = (shares-held pre.1 (rw c.body-2.ensures at c.part-3.ensures) c.after-2.ensures).found in
    omega (arith, groups-fit c.after-2.result.now found, put-list2.auto, put-numbers.auto, put-list.auto, clear.auto, pre.0)

pub returns : goal.returns
returns c =
    let middle = c in
    let early = middle in
    let pre = early.requires in
    let told-types = early.told-types in
    let args = early.args in
    let clear = middle.clear in
    let part = middle.part in
    let told = (goal.at.returns c).After-part in
    let put-list = middle.put_list-suites in
    let put-numbers = middle.put_numbers in
    let part2 = c.part-2 in
    let after = c.after in
    let put-list2 = c.put_list-groups in
    let after2 = c.after-2 in
    let groups = groups-held pre.1 (rw c.body.ensures at part2.ensures) after.ensures in
    let shares = shares-held pre.1 (rw c.body-2.ensures at c.part-3.ensures) after2.ensures in
    let suites-put = words-put part.result.now put-list.ensures in
    let named-put = words-put after.result.now put-list2.ensures in
    let shares-put = groups-put after2.result.now shares.found c.put_list-shares.ensures in
    let one = words-first (words_in part.result.now) args.out.now (few_words part.result.now (few-suites told)) (omega arith) clear.ensures suites-put.put in
    let two = words-next one args.types.now (omega (arith, told-types)) (omega arith) (plainly 2 args.types.now _ put-numbers.ensures) in
    let three = words-next two (words_in after.result.now) (few_words after.result.now groups.few) (omega arith) named-put.put in
    let four = words-next three (share_groups after2.result.now) (groups-few after2.result.now shares.found) (omega arith) shares-put.put in
    let suites-are = ap words_in part.ensures in
    let shares-are = ap (map group_of) shares.is in
    record {
      counts = rw (suites-put.count, named-put.count, shares-put.count, suites-are, groups.is, shares-are) refl;
      put = put_as (first-parts args.types.now suites-are told-types groups.is shares-are) (over-end four);
    }
