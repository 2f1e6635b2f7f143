-- `read_crypto` reads the two numbers and asks whether the data is there. Assumes nothing.
use Prim.Native.Nat.{◌+◌}
use lib.ListN.{drop}
use Rattle.wire.proofs.ListLaws.{part_to_end}
use Rattle.varint.specs.Varint.{Found}
use Rattle.std.specs.Prelude.{Ok}
use Rattle.frames.proofs.ReadLaws.{no-offset, no_length, no_body, whole}
use native.Mathlib.Omega.{arith}
use Rattle.frames.proofs.reading.read_crypto.Goals as goal
use Rattle.frames.proofs.reading.read_crypto.Goals.{In-Ok, In-Ok-read}

offset-found : (c : In-Ok) →
    let args = c.args in
    Found (drop 1 args.input.now) (Ok c.in-Ok.offset)
offset-found c =
    let args = c.args in
    rw (part_to_end args.input.now 1, c.in-Ok.is) at c.read.ensures

length_found : (c : In-Ok-read) →
    let args = c.args in
    Found (drop (1 + c.in-Ok.offset.width) args.input.now) (Ok c.in-Ok-read.length)
length_found c =
    let args = c.args in
    rw (part_to_end args.input.now (1 + c.in-Ok.offset.width), c.in-Ok-read.is) at c.read-2.ensures

pub returns-in_default : goal.returns-in_default
returns-in_default c =
    let args = c.args in
    no-offset args.input.now _ (rw (part_to_end args.input.now 1, c.in_default.is) at c.read.ensures)

pub returns-in_default-read : goal.returns-in_default-read
returns-in_default-read c =
    let args = c.args in
    let earlier = (goal.at.returns-in_default-read c).In-Ok in
    let f = rw (part_to_end args.input.now (1 + c.in-Ok.offset.width), c.in_default-read.is) at c.read-2.ensures in
    no_length args.input.now _ (offset-found earlier) _ f

pub returns-then-input-start : goal.returns-then-input-start
returns-then-input-start c =
    let args = c.args in
    let earlier = (goal.at.returns-then-input-start c).In-Ok in
    no_body args.input.now _ (offset-found earlier) _ (length_found (goal.at.returns-then-input-start c).In-Ok-read) (omega (arith, c.if-input-start.true))

pub returns : goal.returns
returns c =
    let start = c in
    let earlier = (goal.at.returns c).In-Ok in
    whole start.args.input.now _ (offset-found earlier) _ (length_found (goal.at.returns c).In-Ok-read) start.requires (omega (arith, c.if-input-start.false))
