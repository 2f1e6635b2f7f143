-- `after_suites` finds compression of one byte or more, and the block after it, whatever stands before. Assumes nothing.
use mathlib.Core.Path.{sym}
use Rattle.fingerprint.proofs.HeadLaws.{compression-short, compression-empty, compression-cut}
use Rattle.fingerprint.proofs.HeadAnswers.{block-as}
use native.Mathlib.Omega.{arith}
use Rattle.fingerprint.proofs.head.after_suites.Goals as goal

pub returns-then-n-at-lt2 : goal.returns-then-n-at-lt2
returns-then-n-at-lt2 c = λ version random id suites. compression-short version random id suites c.args.hello.now c.args.at c.if-n-at-lt2.true

pub returns-then-length-eq0 : goal.returns-then-length-eq0
returns-then-length-eq0 c = λ version random id suites. compression-empty version random id suites c.args.hello.now c.args.at (omega (arith, c.if-n-at-lt2.false)) c.from-length.result (sym c.from-length.ensures) c.if-length-eq0.true

pub returns-then-n-at : goal.returns-then-n-at
returns-then-n-at c = λ version random id suites. compression-cut version random id suites c.args.hello.now c.args.at (omega (arith, c.if-n-at-lt2.false)) c.from-length.result (sym c.from-length.ensures) c.if-n-at.true

pub returns : goal.returns
returns c =
    block-as c.args.hello.now c.args.at (omega (arith, c.if-n-at-lt2.false)) c.from-length.result (sym c.from-length.ensures) (omega (arith, c.if-length-eq0.false)) c.if-n-at.false c.block_at.result c.block_at.ensures
