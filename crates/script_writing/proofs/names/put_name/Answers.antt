-- `script_writing::names::put_name` meets its contract: the tests are those of the definition. Assumes nothing.
use mathlib.Core.Path.{sym, ◌∙◌}
use mathlib.Core.List.{[], ◌∷◌}
use Rattle.script.specs.Scan.{dash}
use Rattle.script_writing.specs.Hex.{hex_text}
use Rattle.script_writing.proofs.ShownLaws.{written_as}
use Rattle.script_writing.specs.Names.{quoted, name_text}
use Rattle.script_writing.proofs.NameLaws.{name-none, name-quoted, name-hex}
use Rattle.script_writing.proofs.names.put_name.Goals as goal

pub returns-then-name-eq0 : goal.returns-then-name-eq0
returns-then-name-eq0 c =
    let s = c.args.name.now in
    let put = c.put_text in
    written_as (dash ∷ []) (name_text s) put.result c.args.out.now put.new.out (name-none s c.if-name-eq0.true) put.ensures

pub returns-then-all_plain : goal.returns-then-all_plain
returns-then-all_plain c =
    let s = c.args.name.now in
    let put = c.put_quoted in
    written_as (quoted s) (name_text s) put.result c.args.out.now put.new.out
    (name-quoted s c.if-name-eq0.false (sym c.all_plain.ensures ∙ c.if-all_plain.true)) put.ensures

pub returns-else-all_plain : goal.returns-else-all_plain
returns-else-all_plain c =
    let s = c.args.name.now in
    let put = c.put_hex in
    written_as (hex_text s) (name_text s) put.result c.args.out.now put.new.out
    (name-hex s c.if-name-eq0.false (sym c.all_plain.ensures ∙ c.if-all_plain.false)) put.ensures
