-- `reports::put_set` meets its contract: the types are written after their label. Assumes nothing.
use lib.ListN.{take}
use Rattle.script_writing.specs.Hex.{word_text}
use Rattle.fingerprint.specs.Code.{type_number}
use Rattle.reports.specs.Lines.{types_word, set_text}
use Rattle.reports.proofs.PartLaws.{by-number}
use Rattle.reports.proofs.put_set.Goals as goal

pub returns : goal.returns
unfolding set_text
returns c =
    let t = c.args.types in
    by-number types_word word_text type_number (take t.count t.items) c.put_list.ensures
