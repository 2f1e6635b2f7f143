-- `reports::names::put_spaced_name` meets its contract: two parts are written, the second after the first. Assumes nothing.
use mathlib.Core.Path.{refl}
use mathlib.Core.List.{[], ◌∷◌}
use Rattle.script.specs.Scan.{space}
use Rattle.script_writing.proofs.AnswerLaws.{written_one, written-more}
use Rattle.script_writing.specs.Names.{name_text}
use Rattle.reports.proofs.names.put_spaced_name.Goals as goal

pub returns : goal.returns
returns c =
    let s = c.args.name.now in
    let out = c.args.out.now in
    let first = c.put_text-n in
    let name = c.put_name in
    written-more ((space ∷ []) ∷ []) (name_text s ∷ []) first.result name.result _ out first.new.out name.new.out
    (written_one (space ∷ []) first.result out first.new.out first.ensures)
    refl
    (written_one (name_text s) name.result _ name.new.out name.ensures)
