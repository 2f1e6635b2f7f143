use mathlib.Core.Path.{ap, ◌∙◌}
use Prim.Native.Nat.{ℕ}
use mathlib.Core.List.{List, map}
use Rattle.fingerprint_bodies.specs.Entries.{or_empty}
use Rattle.fingerprint_bodies.specs.Body.{name, groups, algorithms, protocols, versions, shares}
use Rattle.fingerprint_bodies.specs.Forms.{words_in, word_list, key_shares, group_of}
use Rattle.fingerprint_lists.specs.Arrays.{words_of, groups_of}
use Rattle.fingerprint.specs.Code.{name_in}
use Rattle.fingerprint.proofs.NameLaws.{length-part-of}
use Rattle.fingerprint.proofs.ReportLaws.{length-note, good-groups, good-algorithms, good-protocols, good-versions, good-shares, report-shown}
use native.Mathlib.Omega.{arith}
use Rattle.fingerprint.proofs.report.report.Goals as goal

pub words_in-suite_list-requires : goal.words_in-suite_list-requires
words_in-suite_list-requires c =
    rw c.part.ensures (omega (arith, length-part-of c.args.hello.now c.args.head.suites c.requires.suites-inside, c.requires.suites-few))

pub part-requires-2 : goal.part-requires-2
part-requires-2 c = rw c.body.ensures (c.requires.inside groups)

pub group_list-groups-requires : goal.group_list-groups-requires
group_list-groups-requires c = rw (c.part-2.ensures, c.body.ensures) (good-groups c.requires)

pub part-requires-3 : goal.part-requires-3
part-requires-3 c = rw c.body-2.ensures (c.requires.inside shares)

pub key_share_groups-shares-requires : goal.key_share_groups-shares-requires
key_share_groups-shares-requires c = rw (c.part-3.ensures, c.body-2.ensures) (good-shares c.requires)

pub part-requires-4 : goal.part-requires-4
part-requires-4 c = rw c.body-3.ensures (c.requires.inside algorithms)

pub word_list-algorithms-requires : goal.word_list-algorithms-requires
word_list-algorithms-requires c = rw (c.part-4.ensures, c.body-3.ensures) (good-algorithms c.requires)

pub part-requires-5 : goal.part-requires-5
part-requires-5 c = rw c.body-4.ensures (c.requires.inside versions)

pub word_list-versions-requires : goal.word_list-versions-requires
word_list-versions-requires c = rw (c.part-5.ensures, c.body-4.ensures) (good-versions c.requires)

pub part-requires-6 : goal.part-requires-6
part-requires-6 c = rw c.body-at_protocols.ensures (c.requires.inside protocols)

pub protocol_names-names-requires : goal.protocol_names-names-requires
protocol_names-names-requires c =
    let p = c.requires in
    rw (c.part-6.ensures, c.body-at_protocols.ensures) (good-protocols p, omega (arith, length-note p protocols, p.inside protocols, p.short))

pub name_in-requires : goal.name_in-requires
name_in-requires c =
    let p = c.requires in
    rw c.body-5.ensures (omega (arith, p.inside name, p.short))

pub returns : goal.returns
returns c =
    record {
      is = λ v f.
          report-shown f
          c.words_in-suite_list.result
          c.ext_types.result
          c.group_list-groups.result
          c.key_share_groups-shares.result
          c.word_list-algorithms.result
          c.word_list-versions.result
          c.protocol_names-names.result
          c.name_in.result
          (c.words_in-suite_list.ensures ∙ ap (λ (b : List ℕ). words_of (words_in b)) c.part.ensures)
          c.ext_types.ensures
          (c.group_list-groups.ensures ∙ ap (λ (b : List ℕ). groups_of (or_empty (word_list 2 b))) (rw c.body.ensures at c.part-2.ensures))
          (c.key_share_groups-shares.ensures ∙ ap (λ (b : List ℕ). groups_of (map group_of (or_empty (key_shares b)))) (rw c.body-2.ensures at c.part-3.ensures))
          (c.word_list-algorithms.ensures ∙ ap (λ (b : List ℕ). words_of (or_empty (word_list 2 b))) (rw c.body-3.ensures at c.part-4.ensures))
          (c.word_list-versions.ensures ∙ ap (λ (b : List ℕ). words_of (or_empty (word_list 1 b))) (rw c.body-4.ensures at c.part-5.ensures))
          (rw (c.part-6.ensures, c.body-at_protocols.ensures) at c.protocol_names-names.ensures)
          (c.name_in.ensures ∙ ap name_in c.body-5.ensures);
    }
