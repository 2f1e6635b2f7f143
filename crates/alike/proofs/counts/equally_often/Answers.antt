-- `alike::counts::equally_often` meets its contract: all of the items pass its test. Assumes nothing.
use Prim.Native.Nat.{ℕ}
use mathlib.Core.Path.{◌≡◌, refl, ap, ◌∙◌}
use mathlib.Core.Bool.{Bool, ◌&&◌}
use mathlib.Core.List.{List, [], ◌∷◌}
use borrow.Author.Rules.{rules}
use borrow.Author.Tests.{tests}
use lib.Dec.{eqb}
use Rattle.std.specs.List.{list_all}
use Rattle.std.proofs.lemmas.Iterator.Search.{all_from_yields_List}
use Rattle.std.proofs.lemmas.Iterator.{YieldsList-from_slice}
use Rattle.wire.specs.Sums.{count, equally_often}
use Rattle.alike.proofs.counts.equally_often.Goals as goal

-- x stands as often in a as in b
abbrev often : List ℕ → List ℕ → ℕ → Bool
often a b x = eqb (count x a) (count x b)

all-often : (a b l : List ℕ) → list_all (often a b) l ≡ equally_often a b l
unfolding equally_often
all-often a b [] = refl
all-often a b (x ∷ l) = ap (λ (t : Bool). often a b x && t) (all-often a b l)

pub returns : goal.returns
returns c =
    let a = c.args.a.now in
    let b = c.args.b.now in
    all_from_yields_List (often a b) _ _ c.all.result c.all.ensures.ran (YieldsList-from_slice c.args.items.now cc) (λ x r q k. search (rules, tests))
    ∙ all-often a b c.args.items.now
