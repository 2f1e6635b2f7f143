-- `show_hello::put_lines` meets its contract: the lines so far stand in the output, and the others begin at the cursor. Assumes nothing.
use Prim.Native.Nat.{zero-le}
use mathlib.Core.Path.{refl, sym, ◌∙◌, subst}
use Rattle.show_marks.specs.Text.{stop_by}
use Rattle.show_lines.specs.Rows.{cursor_of}
use Rattle.show_lines.specs.declared.cursor.Cursor.{Cursor}
use Rattle.show_hello.proofs.TurnLaws.{Going, going-none, going_more, going-ended}
use Rattle.std.proofs.Common.{rules}
use Rattle.show_hello.proofs.put_lines.Goals as goal

pub loop-c-init : goal.loop-c-init
loop-c-init c =
    let args = c.args in
    let first = c.new-c-items.ensures in
    rw c.into_iter-c-iterator.ensures.into_iter_gives
    (first.goes_on, tt, first.hello, zero-le, refl, going-none args.hello.now (stop_by args.number args.stop) _ args.out.now first.first)

pub loop-c-preserved : goal.loop-c-preserved
loop-c-preserved c =
    let args = c.args in
    let h = args.hello.now in
    let stop = stop_by args.number args.stop in
    let l = c.loop-c in
    let w = c.put_row-used in
    let line = c.in-Some.line in
    let g = c.in-Some.ensures.steps in
    let same = l.invariant.2 in
    let going = subst (λ (x : Cursor). Going h stop (cursor_of x) l.used args.out.now l.out) (sym g.here) l.invariant.5 in (
      (c.in-Some.ensures.goes.on tt).0,
      tt,
      g.hello ∙ same,
      search rules,
      search rules,
      going_more h stop (cursor_of c.in-Some.c) _ line l.used w.result _ args.out.now l.out w.new.out (rw same at g.inside) (rw same at g.is)
          (rw same at g.next) g.forward going refl w.ensures,
    )

pub returns : goal.returns
returns c =
    let args = c.args in
    let l = c.loop-c in
    let ended = c.in-None.ensures.steps in
    going-ended args.hello.now (stop_by args.number args.stop) (cursor_of l.c-iterator.cursor) l.used args.out.now l.out (rw l.invariant.2 at ended.0) l.invariant.5
