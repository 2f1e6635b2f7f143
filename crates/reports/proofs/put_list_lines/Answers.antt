-- `reports::put_list_lines` meets its contract: four lines are written, one after the other. Assumes nothing.
use Prim.Native.Nat.{ℕ}
use mathlib.Core.Path.{◌∙◌}
use mathlib.Core.List.{List, ◌∷◌, ◌++◌, map, append_assoc}
use lib.ListN.{take}
use Rattle.script_writing.specs.Hex.{word_text}
use Rattle.script_writing.proofs.AnswerLaws.{all-as, written_then}
use Rattle.fingerprint.specs.InRange.{group_number, group_numbers}
use Rattle.reports.specs.Lines.{list_lines, groups_label, shares_label, algorithms_label, versions_label}
use Rattle.reports.proofs.PartLaws.{by-number, list-of}
use Rattle.reports.proofs.put_list_lines.Goals as goal

pub returns : goal.returns
unfolding list_lines
returns c =
    let f = c.args.report.now in
    let groups =
    by-number groups_label word_text group_number (take f.group_count f.supported_groups)
    (list-of (λ g. word_text (group_number g)) c.groups.ensures.0 c.put_list-at.ensures) in
    let shares =
    by-number shares_label word_text group_number (take f.share_count f.key_share_groups)
    (list-of (λ g. word_text (group_number g)) c.shares.ensures.0 c.put_list-at-2.ensures) in
    let a : List (List ℕ) = groups_label ∷ map word_text (group_numbers f.supported_groups f.group_count) in
    let b : List (List ℕ) = shares_label ∷ map word_text (group_numbers f.key_share_groups f.share_count) in
    let d : List (List ℕ) = algorithms_label ∷ map word_text (take f.algorithm_count f.signature_algorithms) in
    let e : List (List ℕ) = versions_label ∷ map word_text (take f.version_count f.supported_versions) in
    let three = written_then (written_then groups shares) (list-of word_text c.algorithms.ensures.0 c.put_list-at-3.ensures) in
    all-as (((a ++ b) ++ d) ++ e) (a ++ (b ++ (d ++ e))) _ c.args.out.now _ (append_assoc (a ++ b) d e ∙ append_assoc a b (d ++ e))
    (written_then three (list-of word_text c.versions.ensures.0 c.put_list-at-4.ensures))
