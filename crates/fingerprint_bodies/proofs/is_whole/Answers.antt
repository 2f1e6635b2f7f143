-- `is_whole` reads the length in front as the definition does, in one byte or in two. Assumes nothing.
use mathlib.Core.Path.{sym, ◌∙◌}
use borrow.Author.Tests.{lt-leb}
use Rattle.varint.proofs.ByteLaws.{number-one}
use Rattle.fingerprint_bodies.proofs.FormLaws.{whole-asked, whole-few}
use Rattle.fingerprint_bodies.proofs.is_whole.Goals as goal

pub returns-then-n-ge1 : goal.returns-then-n-ge1
returns-then-n-ge1 c =
    let bs = c.args.body.now in
    rw c.in-OneByte.is (whole-asked 1 bs c.from.result (c.from.ensures ∙ sym (number-one bs c.if-n-ge1.true)) c.if-n-ge1.true)

pub returns-else-n-ge1 : goal.returns-else-n-ge1
returns-else-n-ge1 c = rw c.in-OneByte.is (lt-leb 1 _ c.if-n-ge1.false ∙ sym (whole-few 1 c.args.body.now c.if-n-ge1.false))

pub returns-then-n-ge2 : goal.returns-then-n-ge2
returns-then-n-ge2 c =
    let bs = c.args.body.now in
    rw c.in-TwoBytes.is (whole-asked 2 bs c.from-then-n-ge2.result (c.from-then-n-ge2.ensures ∙ c.be16.ensures) c.if-n-ge2.true)

pub returns-else-n-ge2 : goal.returns-else-n-ge2
returns-else-n-ge2 c = rw c.in-TwoBytes.is (lt-leb 2 _ c.if-n-ge2.false ∙ sym (whole-few 2 c.args.body.now c.if-n-ge2.false))
