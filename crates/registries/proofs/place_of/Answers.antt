-- `place_of` meets its contract: the place that the library finds, or the length, is the distance from the table's start. Assumes nothing.
use Rattle.std.proofs.Common.{◌≡◌, ℕ, ◌==◌, length, ap, ◌∙◌, arith, rules, tests}
use Rattle.std.specs.Prelude.{Option, position}
use Rattle.std.specs.Option.{unwrap_or}
use Rattle.std.proofs.lemmas.Iterator.{YieldsList-from_slice}
use Rattle.std.proofs.lemmas.Iterator.Search.{position_from_yields_List}
use Rattle.script.specs.Scan.{distance}
use Rattle.script.proofs.ScanLaws.{distance-le, position-or}
use Rattle.registries.specs.Registry.{place_of}
use Rattle.registries.proofs.place_of.Goals as goal

pub returns : goal.returns
unfolding place_of
returns c =
    let numbers = c.args.numbers.now in
    let v = c.args.v in
    let searched : c.position.result ≡ position (λ x. x == v) numbers =
    position_from_yields_List (λ x. x == v) _ _ c.position.result c.position.ensures.ran (YieldsList-from_slice numbers c.iter.ensures.rest)
    (λ x b q k. search (rules, tests)) in
    let e : c.unwrap_or.result ≡ distance v numbers =
    c.unwrap_or.ensures ∙ ap (λ (r : Option ℕ). unwrap_or r (length numbers)) searched ∙ position-or v numbers in
    (e, omega (arith, e, distance-le v numbers))
