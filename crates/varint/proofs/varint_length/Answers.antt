-- `size` refuses no number below 2^62. Assumes nothing.
use mathlib.Core.Path.{sym, ◌∙◌}
use Rattle.wire.proofs.AnswerLaws.{same-ok}
use Rattle.varint.proofs.TableLaws.{width-most, class-small}
use Rattle.varint.proofs.RoomLaws.{sized}
use Rattle.varint.proofs.varint_length.Goals as goal

pub unwrap-requires : goal.unwrap-requires
unwrap-requires c = rw (sized c.args.value c.requires c.size.result c.size.ensures)

pub returns : goal.returns
returns c =
    let e = same-ok (sym c.unwrap.ensures ∙ sized c.args.value c.requires c.size.result c.size.ensures) in
    (e, rw e (width-most _ (class-small c.args.value c.requires)))
