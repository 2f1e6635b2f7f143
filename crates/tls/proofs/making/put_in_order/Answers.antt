-- The two cases of the profile are the two of the contract. Assumes nothing.
use mathlib.Core.Path.{refl, ap, ◌∙◌}
use mathlib.Core.List.{List, map}
use native.Mathlib.Omega.{arith}
use Rattle.profiles.specs.Code.{type_number}
use Rattle.profiles.specs.declared.ExtType.{ExtType}
use Rattle.tape.proofs.ShuffleLaws.{shuffle-map}
use Rattle.tls.proofs.making.put_in_order.Goals as goal

pub shuffle-requires : goal.shuffle-requires
shuffle-requires c = (c.requires.0, rw c.if-shuffled.true at c.requires.1)

pub returns-then-shuffled : goal.returns-then-shuffled
returns-then-shuffled c =
    let none : ExtType = record { 0 = 0 } in
    let shuffled = c.shuffle.ensures in
    rw c.if-shuffled.true
    record {
      is = shuffled.0;
      order =
          ap (λ (l : List ExtType). map type_number l) (shuffled.1 none) ∙ shuffle-map type_number none c.args.types.now c.args.tape.now c.args.at;
    }

pub returns : goal.returns
returns c = rw c.if-shuffled.false record { is = omega arith; order = refl }
