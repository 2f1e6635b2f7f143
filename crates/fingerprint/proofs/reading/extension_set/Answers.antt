use mathlib.Core.Path.{ap, ◌∙◌}
use Rattle.std.proofs.lemmas.List.Sorted.{IsNonDecreasingBy-from_sort}
use Rattle.fingerprint_lists.specs.Arrays.{types_of}
use Rattle.fingerprint.proofs.ReportLaws.{read-refused, set-refused, set-result}
use Rattle.fingerprint.proofs.reading.extension_set.Goals as goal

pub returns-in_default : goal.returns-in_default
returns-in_default c = c.no_types.ensures ∙ ap types_of (set-refused c.in_default.ensures)

pub returns-in_default-survey_block : goal.returns-in_default-survey_block
returns-in_default-survey_block c = c.no_types-in_default-survey_block.ensures ∙ ap types_of (set-refused (read-refused c.in-Ok.ensures _ c.in_default-survey_block.ensures))

pub returns : goal.returns
returns c =
    let sort = c.sort_unstable.ensures in
    let set = set-result c.in-Ok.ensures c.in-Ok-survey_block.ensures c.sort_unstable.new.self sort.permutation (IsNonDecreasingBy-from_sort (λ x. x) _ sort.sorted) sort.len in
    rw c.ext_types.ensures set
