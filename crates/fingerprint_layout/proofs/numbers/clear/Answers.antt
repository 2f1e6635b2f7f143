use Prim.Native.Nat.{ℕ}
use mathlib.Core.Path.{ap, ◌∙◌}
use mathlib.Core.List.{List, ◌++◌}
use lib.ListN.{drop, replicate}
use lib.Seq.{length-take-le}
use Rattle.wire.proofs.FrontLaws.{front-replicate}
use Rattle.fingerprint_layout.specs.Code.{zeros}
use Rattle.fingerprint_layout.proofs.numbers.clear.Goals as goal

pub returns : goal.returns
unfolding zeros
returns c =
    let n = c.args.n in
    let out = c.args.out.now in
    ap (λ (l : List ℕ). l ++ drop n out) (c.fill.ensures.after (λ y e. e))
    ∙ ap (λ (k : ℕ). replicate k 0 ++ drop n out) (length-take-le n out c.requires)
    ∙ front-replicate n 0 out
