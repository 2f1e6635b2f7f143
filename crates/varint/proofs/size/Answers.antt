-- `size` meets its promise by the class that it finds. Assumes nothing.
use lib.Dec.{lit≤}
use Rattle.varint.proofs.Promises.{sized-large, sized, place-small}
use Rattle.varint.specs.Code.{place}
use Rattle.varint.proofs.size.Goals as goal

pub returns-in_default : goal.returns-in_default
returns-in_default c = sized-large c.args.value 4 (rw c.in_default.is at c.of.ensures) (lit≤ tt)

pub returns : goal.returns
returns c =
    let class = c.in-Some.class in
    rw c.width.ensures (sized c.args.value (place class) (rw c.in-Some.is at c.of.ensures) (place-small class))
