-- A number in two bytes, where they are there. Assumes nothing.
use mathlib.Core.Path.{◌∙◌, ap, sym}
use mathlib.Core.Option.{some}
use lib.ListN.{drop}
use Prim.Native.Nat.{ℕ}
use Rattle.fingerprint_bodies.specs.Entries.{entry}
use Rattle.fingerprint_bodies.proofs.PieceLaws.{number-there, number_cut}
use native.Mathlib.Omega.{arith}
use Rattle.fingerprint_bodies.proofs.WordListed.at_front.Goals as goal

pub returns-then-rest-lt2 : goal.returns-then-rest-lt2
returns-then-rest-lt2 c = number_cut 2 c.args.rest.now c.if-rest-lt2.true

pub returns : goal.returns
returns c =
    let bs = c.args.rest.now in
    record {
      is = number-there 2 bs c.if-rest-lt2.false ∙ ap (λ (v : ℕ). some (entry v (drop 2 bs))) (sym c.be16.ensures);
      some = omega arith;
      within = c.if-rest-lt2.false;
    }
