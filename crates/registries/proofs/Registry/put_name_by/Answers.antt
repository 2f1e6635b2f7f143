-- `put_name_by` writes the name beside the number, or a spare word where the table has no such number. Assumes nothing.
use mathlib.Core.Path.{◌≡◌, sym, ap, ◌∙◌}
use lib.Dec.{eqb}
use Rattle.std.proofs.Common.{rules, tests}
use Rattle.std.specs.List.{find}
use Rattle.std.specs.Option.{option_map}
use Rattle.std.proofs.lemmas.Iterator.{YieldsList-from_slice}
use Rattle.std.proofs.lemmas.Iterator.Search.{find_from_yields_List}
use Rattle.registries.specs.Registry.{word, spare_words}
use Rattle.registries.specs.Names.{Entry}
use Rattle.registries.proofs.RegistryLaws.{entry-name, no-name}
use Rattle.registries.proofs.Registry.put_name_by.Goals as goal
use Rattle.registries.proofs.Registry.put_name_by.Goals.{After-find}

-- the entry that the library finds
found : (c : After-find) → option_map (λ x. x.now) c.find.result ≡ find (λ (e : Entry). eqb e.0 c.args.v) c.table.result.now
found c =
    find_from_yields_List (λ (e : Entry). eqb e.0 c.args.v) _ _ c.find.result c.find.ensures.ran
    (YieldsList-from_slice _ c.iter.ensures.rest) (λ x b q k. search (rules, tests))

pub returns-in-Some : goal.returns-in-Some
returns-in-Some c =
    let args = c.args in
    let is = sym (found (goal.at.returns-in-Some c).After-find) ∙ ap (option_map (λ x. x.now)) c.in-Some.is in
    let name = entry-name args.self c.table.result.now c.table.ensures args.spare args.v c.in-Some.entry.now is in
    rw (← name, ← c.as_bytes.ensures.value) c.put_text.ensures

pub returns-in-None : goal.returns-in-None
unfolding word spare_words
returns-in-None c =
    let args = c.args in
    let is = sym (found (goal.at.returns-in-None c).After-find) ∙ ap (option_map (λ x. x.now)) c.in-None.is in
    let name = no-name args.self c.table.result.now c.table.ensures args.spare args.v is in
    rw (sym name ∙ sym c.word_at.ensures) c.put_text-in-None.ensures
