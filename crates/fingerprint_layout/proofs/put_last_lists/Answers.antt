-- Zeros are written, over them each list in its place, and the ids after them. Assumes nothing.
use Prim.Native.Nat.{◌+◌}
use mathlib.Core.Path.{◌≡◌, refl, ap}
use lib.ListN.{length}
use Rattle.wire.proofs.Writing.{filled, joined, put_as}
use Rattle.fingerprint_bodies.specs.Body as value
use Rattle.fingerprint_bodies.specs.Forms.{words_in}
use Rattle.fingerprint_lists.specs.Arrays.{placed}
use Rattle.fingerprint_lists.proofs.WalkLaws.{name_spans, spans-few}
use Rattle.fingerprint.specs.Code.{note_of}
use Rattle.fingerprint_layout.specs.Layout.{littles}
use Rattle.fingerprint_layout.proofs.PieceLaws.{length-littles, plainly}
use Rattle.fingerprint_layout.proofs.PlaceLaws.{words-first, words-next, ranges-next, over-end}
use Rattle.fingerprint_layout.proofs.FoundLaws.{few_words, algorithms-held, versions-held, protocols-held, protocols-low, words-fit, words-put}
use Rattle.fingerprint_layout.proofs.WrittenLaws.{last-parts}
use native.Mathlib.Omega.{arith}
use Rattle.fingerprint_layout.proofs.put_last_lists.Goals as goal

pub part-requires : goal.part-requires
part-requires c = rw c.body.ensures (c.requires.1.inside value.algorithms)

pub put_list-algorithms-requires : goal.put_list-algorithms-requires
put_list-algorithms-requires c =
    let pre = c.requires in
    let clear = c.clear in
    let a = algorithms-held pre.1 (rw c.body.ensures at c.part.ensures) c.after.ensures in omega (arith, words-fit c.after.result.now a.few, clear.auto, pre.0)

pub part-requires-2 : goal.part-requires-2
part-requires-2 c =
    let pre = c.requires in
    rw c.body-2.ensures (pre.1.inside value.versions)

pub put_list-versions-requires : goal.put_list-versions-requires
put_list-versions-requires c =
    let pre = c.requires in
    let put-list = c.put_list-algorithms in
    let v = versions-held pre.1 (rw c.body-2.ensures at c.part-2.ensures) c.after-2.ensures in omega (arith, words-fit c.after-2.result.now v.few, put-list.auto)

pub part-requires-3 : goal.part-requires-3
part-requires-3 c =
    let pre = c.requires in
    rw c.body-at_protocols.ensures (pre.1.inside value.protocols)

pub overflow_add-at_protocols : goal.overflow_add-at_protocols
overflow_add-at_protocols c =
    let pre = c.requires in
    rw c.body-at_protocols.ensures (omega (arith, pre.1.inside value.protocols, pre.1.short))

pub put_names-protocols-requires : goal.put_names-protocols-requires
put_names-protocols-requires c =
    let pre = c.requires in
    let clear = c.clear in
    let put-list = c.put_list-algorithms in
    let put-list2 = c.put_list-versions in
    ((protocols-held pre.1 (rw c.body-at_protocols.ensures at c.part-3.ensures) c.after-3.ensures).found, rw c.body-at_protocols.ensures (protocols-low pre.1 (rw c.body-at_protocols.ensures at c.part-3.ensures) c.after-3.ensures), omega (arith, put-list2.auto, put-list.auto, clear.auto, pre.0))

pub slice_bounds-put_numbers-count : goal.slice_bounds-put_numbers-count
slice_bounds-put_numbers-count c =
    let pre = c.requires in
    let clear = c.clear in
    let put-list = c.put_list-algorithms in
    let put-list2 = c.put_list-versions in
    omega (arith, c.put_names-protocols.auto, put-list2.auto, put-list.auto, clear.auto, pre.0)

pub returns : goal.returns
returns c =
    let middle = c in
    let early = middle in
    let pre = early.requires in
    let told-ids = early.told-ids in
    let args = early.args in
    let clear = early.clear in
    let part = middle.part in
    let after = middle.after in
    let put-list = middle.put_list-algorithms in
    let part2 = middle.part-2 in
    let after2 = middle.after-2 in
    let put-list2 = middle.put_list-versions in
    let part3 = c.part-3 in
    let after3 = c.after-3 in
    let written = rw c.body-at_protocols.ensures at c.put_names-protocols.ensures in
    let algorithms = algorithms-held pre.1 (rw c.body.ensures at part.ensures) after.ensures in
    let versions = versions-held pre.1 (rw c.body-2.ensures at part2.ensures) after2.ensures in
    let protocols = protocols-held pre.1 (rw c.body-at_protocols.ensures at part3.ensures) after3.ensures in
    let start = (note_of args.found value.protocols).start + 2 in
    let algorithms-put = words-put after.result.now put-list.ensures in
    let versions-put = words-put after2.result.now put-list2.ensures in
    let one = words-first (words_in after.result.now) args.out.now (few_words after.result.now algorithms.few) (omega arith) clear.ensures algorithms-put.put in
    let two = words-next one (words_in after2.result.now) (few_words after2.result.now versions.few) (omega arith) versions-put.put in
    let three = ranges-next two (name_spans start after3.result.now) (spans-few start after3.result.now protocols.found) (omega arith) written.1 in
    let protocols-are = ap (placed start) protocols.is in
    let ids-long : length (littles 8 args.ids.now) ≡ 512 = omega (arith, length-littles 8 args.ids.now, told-ids) in
    record {
      counts = rw (algorithms-put.count, versions-put.count, written.0, algorithms.is, versions.is, protocols-are) refl;
      put = put_as (last-parts args.ids.now algorithms.is versions.is protocols-are) (joined (over-end three) (filled ids-long (plainly 8 args.ids.now _ c.put_numbers.ensures)));
    }
