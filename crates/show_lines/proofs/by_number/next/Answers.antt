-- What stands after the row's line stands after that of the number. Assumes nothing.
use mathlib.Core.Path.{sym, ap, ◌∙◌}
use native.Mathlib.Omega.{arith}
use lib.ListN.{length}
use Rattle.show_lines.specs.Lines.{Cursor}
use Rattle.show_lines.specs.Numbered.{cursor_by}
use Rattle.show_lines.proofs.NumberedLaws.{line-alike, next-alike, ready-alike, reaches-known}
use Rattle.show_lines.proofs.by_number.next.Goals as goal

pub next-requires : goal.next-requires
next-requires c =
    let h = c.args.hello.now in
    let from = cursor_by c.args.c in
    let e = c.by_kind.ensures in
    let pre = c.requires in
    let place = ap (λ (d : Cursor). d.at) e in (
      pre.0,
      rw e (ready-alike from _ pre.1),
      omega (arith, place, pre.2),
      rw e (pre.3 ∙ sym (line-alike from h)),
      rw e (reaches-known from (length h) _ pre.4),
    )

pub returns : goal.returns
returns c =
    let h = c.args.hello.now in
    let from = cursor_by c.args.c in
    let pre = c.requires in
    let e = c.by_kind.ensures in
    let place = ap (λ (d : Cursor). d.at) e in
    let after = c.next.ensures in
    (rw e at after.0 ∙ next-alike from h pre.2 _ pre.3, after.1, omega (arith, place, after.2))
