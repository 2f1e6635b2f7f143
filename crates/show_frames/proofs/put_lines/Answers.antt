-- `put_lines` meets its contract: the lines so far stand in the output, and the others begin where they end. Assumes nothing.
use Prim.Native.Nat.{ℕ, zero-le}
use mathlib.Core.Path.{◌≡◌, refl, sym, ap, ◌∙◌, subst}
use Rattle.show_marks.specs.Text.{stop_by}
use Rattle.show_frames.proofs.TurnLaws.{Going, going-none, going_more, ended-whole, ended-short}
use Rattle.std.proofs.Common.{rules}
use Rattle.show_frames.specs.declared.Lines.{Lines}
use Rattle.show_frames.proofs.put_lines.Goals as goal
use Rattle.show_frames.proofs.put_lines.Goals.{else-loop-out-test, then-loop-out-test+in_default}

pub loop-out-init : goal.loop-out-init
loop-out-init c =
    let args = c.args in
    (refl, zero-le, zero-le, refl, going-none args.frames.now (stop_by args.number args.stop) args.out.now)

pub loop-out-preserved : goal.loop-out-preserved
loop-out-preserved c =
    let args = c.args in
    let h = args.frames.now in
    let stop = stop_by args.number args.stop in
    let l = c.loop-out in
    let w = c.put_row-used in
    let at = c.in-Some.at in
    let g = c.in-Some.ensures.steps in
    let same = l.invariant.0 in
    let going = subst (λ (x : ℕ). Going h stop x l.used args.out.now l.out) (sym g.0) l.invariant.4 in (
      g.6 ∙ same,
      rw g.5 (rw same at g.4),
      search rules,
      search rules,
      rw g.5
          (going_more h stop at c.in-Some.size l.used w.result _ args.out.now l.out w.new.out (rw same at g.1) (rw same at g.2) g.3 going
          refl w.ensures),
    )

pub returns : goal.returns
returns c =
    let args = c.args in
    let h = args.frames.now in
    let stop = stop_by args.number args.stop in
    let l = c.loop-out in
    let w = c.put_end in
    let there = c.loop-out-test.lines.at in
    let going = λ (e : there ≡ l.lines.at). subst (λ (x : ℕ). Going h stop x l.used args.out.now l.out) (sym e) l.invariant.4 in
    elim c.loop-out-test.branch [
      | else-loop-out-test p ↦
          let same : there ≡ l.lines.at = ap (λ (x : Lines). x.at) p.lines-is in
          ended-short h stop there l.used w.result _ args.out.now l.out w.new.out (going same) refl w.ensures l.invariant.3 l.invariant.2
          p.loop-out-test.false
      | then-loop-out-test+in_default q ↦
          let ended = rw q.in_default.is at q.next.ensures.steps in
          let same : there ≡ l.lines.at = ap (λ (x : Lines). x.at) q.lines-is ∙ ended.1 in
          ended-whole h stop there l.used w.result _ args.out.now l.out w.new.out (going same) refl w.ensures
          (rw same (rw l.invariant.0 at ended.0))
    ]
