-- `write` meets its promise: both refusals before the first store, then the form of the class. Assumes nothing.
use lib.Dec.{lit≤}
use Prim.Native.Nat.{◌<◌}
use mathlib.Core.Path.{◌≡◌}
use Rattle.varint.specs.Code.{place}
use Rattle.varint.specs.Varint as varint
use Rattle.varint.proofs.TableLaws.{class-holds}
use Rattle.varint.proofs.Promises.{written-large, written-short, written, place-small}
use Rattle.varint.proofs.write.Goals as goal

pub returns-in_default : goal.returns-in_default
returns-in_default c = written-large c.args.value c.args.out.now 4 (rw c.in_default.is at c.of.ensures) (lit≤ tt)

pub returns-then-out-width : goal.returns-then-out-width
returns-then-out-width c =
    let class = c.in-Some.class in
    written-short c.args.value c.args.out.now (place class) (rw c.in-Some.is at c.of.ensures) (place-small class) (rw c.width-width.ensures at c.if-out-width.true)

pub put-requires : goal.put-requires
put-requires c =
    let class = c.in-Some.class in
    let e : place class ≡ varint.class c.args.value = rw c.in-Some.is at c.of.ensures in
    let known : varint.class c.args.value < 4 = rw e at (place-small class) in
    (rw c.width-width.ensures at c.if-out-width.false, rw e (class-holds c.args.value known))

pub returns : goal.returns
returns c =
    let class = c.in-Some.class in
    let e = rw c.in-Some.is at c.of.ensures in
    rw c.width-width.ensures
    (written c.args.value c.args.out.now (place class) e (place-small class) c.put.new.out (rw c.width-width.ensures at c.if-out-width.false) c.put.ensures)
