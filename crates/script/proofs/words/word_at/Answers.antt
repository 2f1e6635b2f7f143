-- `word_at` meets its contract: the parts between the spaces are the words. Assumes nothing.
use Rattle.std.proofs.Common.{◌≡◌, ℕ, ◌==◌, List, [], refl, sym, ap, ◌∙◌, zero-le, rules, tests}
use denote.Ref.{Bor}
use Rattle.std.specs.Prelude.{Option, Some, None}
use Rattle.std.specs.List.{slice_get}
use Rattle.std.specs.Option.{option_map, unwrap_or}
use Rattle.std.proofs.lemmas.Iterator.Consumers.{nth_from_yields_List}
use Rattle.std.proofs.lemmas.Iterator.Splits.{YieldsList-from_slice_split}
use Rattle.script.specs.Scan.{space}
use Rattle.script.specs.Words.{word_of}
use Rattle.script.proofs.WordLaws.{parts, word-part}
use Rattle.script.proofs.words.word_at.Goals as goal

-- the bytes that a reference shows, or those of another
shown : (r : Option (Bor (List ℕ))) (d : Bor (List ℕ)) → (unwrap_or r d).now ≡ unwrap_or (option_map (λ y. y.now) r) d.now
shown None d = refl
shown (Some x) d = refl

pub returns : goal.returns
unfolding word_of
returns c =
    let line = c.args.line.now in
    let part : option_map (λ y. y.now) c.nth.result ≡ slice_get (parts line) c.args.k =
    nth_from_yields_List c.nth.result _ c.args.k c.nth.ensures.ran
    (YieldsList-from_slice_split _ (λ x. x == space) line c.split.ensures.rest c.split.ensures.done c.split.ensures.closure (λ x b q k. search (rules, tests))) in
    ap (λ r. r.now) c.unwrap_or.ensures ∙ shown c.nth.result _ ∙ ap (λ (r : Option (List ℕ)). unwrap_or r []) part ∙ sym (word-part line c.args.k 0 zero-le)
