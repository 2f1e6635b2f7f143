-- `alike::names::same_protocols` meets its contract: lists of two lengths differ, and so do lists of which two names do. Assumes nothing.
use mathlib.Core.Path.{ap, ◌∙◌}
use mathlib.Core.Logic.{⊎_elim}
use native.Mathlib.Omega.{arith}
use lib.ListN.{length}
use Rattle.fingerprint.specs.Code.{part_of}
use Rattle.alike.specs.Alike.{same_numbers}
use Rattle.alike.proofs.AnswerLaws.{parts_same, parts-differ}
use Rattle.alike.proofs.PlaceLaws.{lengths-differ, one-differs, one-same, none-left}
use Rattle.alike.proofs.names.same_protocols.Goals as goal

pub returns-then-x-y : goal.returns-then-x-y
returns-then-x-y c = lengths-differ (part_of c.args.a.now) (part_of c.args.b.now) same_numbers c.args.x.now c.args.y.now c.if-x-y.true

pub returns-then-ne : goal.returns-then-ne
returns-then-ne c =
    let it = c.in-Some.ensures.steps in
    let differ = parts-differ c.part.ensures c.part-in-loop-s.ensures c.ne.ensures c.if-ne.true in
    rw (c.loop-s.invariant.left, it.0, it.1) (one-differs (part_of c.args.a.now) (part_of c.args.b.now) same_numbers c.in-Some.field-0-0.now c.in-Some.field-0-1.now _ _ differ)

pub loop-s-preserved : goal.loop-s-preserved
loop-s-preserved c =
    let it = c.in-Some.ensures.steps in
    let w = c.loop-s.invariant in
    let same = parts_same c.part.ensures c.part-in-loop-s.ensures c.ne.ensures c.if-ne.false in
    record {
      same_length = omega (arith, w.same_length, ap length it.0, ap length it.1);
      left = w.left ∙ rw (it.0, it.1) (one-same (part_of c.args.a.now) (part_of c.args.b.now) same_numbers c.in-Some.field-0-0.now c.in-Some.field-0-1.now _ _ same);
    }

pub returns : goal.returns
returns c =
    let w = c.loop-s.invariant in
    rw w.left (none-left (part_of c.args.a.now) (part_of c.args.b.now) same_numbers _ _ w.same_length (⊎_elim (λ k. k.1.0) (λ k. w.same_length ∙ k.1.0) c.in-None.ensures.steps))
