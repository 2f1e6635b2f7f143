-- `read_header` reads type and length where both are there, and then asks whether the body is. Assumes nothing.
use Prim.Native.Nat.{ℕ, ◌+◌}
use mathlib.Core.Path.{ap, ◌∙◌}
use mathlib.Core.List.{List}
use lib.ListN.{take}
use Rattle.wire.specs.Numbers.{number}
use Rattle.wire.proofs.ListLaws.{part_to_end}
use Rattle.fingerprint.proofs.StepLaws.{head-short, head-long, head-found}
use Rattle.fingerprint.proofs.walk.read_header.Goals as goal

pub returns-then-n-at-lt4 : goal.returns-then-n-at-lt4
returns-then-n-at-lt4 c = head-short c.args.hello.now c.args.at c.if-n-at-lt4.true

pub returns-then-n-start : goal.returns-then-n-start
returns-then-n-start c = head-long c.args.hello.now c.args.at c.from-length.result c.if-n-at-lt4.false (c.from-length.ensures ∙ c.be16.ensures ∙ ap (λ (s : List ℕ). number 256 (take 2 s)) (part_to_end c.args.hello.now (c.args.at + 2))) c.if-n-start.true

pub returns : goal.returns
returns c = head-found c.args.hello.now c.args.at c.from-length.result c.if-n-at-lt4.false (c.from-length.ensures ∙ c.be16.ensures ∙ ap (λ (s : List ℕ). number 256 (take 2 s)) (part_to_end c.args.hello.now (c.args.at + 2))) c.be16-2.result (c.be16-2.ensures ∙ ap (λ (s : List ℕ). number 256 (take 2 s)) (part_to_end c.args.hello.now c.args.at)) c.if-n-start.false
