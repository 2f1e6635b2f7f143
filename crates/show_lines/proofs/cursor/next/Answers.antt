-- What stands inside, or what follows, as in `next`. Assumes nothing.
use Prim.Native.Nat.{ℕ}
use native.Mathlib.Omega.{arith}
use mathlib.Core.Path.{◌∙◌, sym, ap}
use lib.ListN.{length}
use Rattle.show_lines.specs.Lines.{settle, opened, inside}
use Rattle.show_lines.specs.Rows.{form_number, inside_number, cursor_of}
use Rattle.show_lines.proofs.PartLaws.{part-within}
use Rattle.show_lines.proofs.CodeLaws.{no-opens, next-inside, next-cut, next-plain}
use Rattle.show_lines.proofs.cursor.next.Goals as goal
use Rattle.show_lines.proofs.cursor.next.Goals.{in_default-via-in-Opens+else-is_some, in_default-via-in_default}

pub inside-requires : goal.inside-requires
inside-requires c =
    let start = c in
    let pre = start.requires in
    let end = part-within (length start.args.hello.now) (cursor_of start.args.c) pre.1 in
    (omega (arith, pre.4.within, end), pre.4.front, (sym c.is_some.ensures ∙ c.if-is_some.true), pre.3, sym (ap inside_number c.in-Opens.is) ∙ c.row_of.ensures.inside)

pub returns-in-Opens : goal.returns-in-Opens
returns-in-Opens c =
    let args = c.args in
    let at = cursor_of args.c in
    let n = length args.hello.now in
    let in-kind = inside args.hello.now at args.line in
    let end = rw c.part_end.ensures at c.inner_end-end.ensures in
    let to = c.settle.ensures
    ∙ ap (settle n) (
    c.opened.ensures
    ∙ ap (λ (k : ℕ). opened at args.line.end k c.inner_end-end.result) c.inside.ensures
    ∙ ap (λ (e : ℕ). opened at args.line.end in-kind e) end) in
    next-inside args.hello.now at args.line c.requires.1 c.requires.4
    (sym c.row_of.ensures.form ∙ ap form_number c.in-Opens.is) (sym c.is_some.ensures ∙ c.if-is_some.true) _ to

pub returns-in_default : goal.returns-in_default
returns-in_default c =
    let args = c.args in
    let at = cursor_of args.c in
    let pre = c.requires in
    let h = args.hello.now in
    let form = c.row_of.ensures.form in
    let to = c.settle-in_default.ensures
    ∙ ap (λ (k : ℕ). settle (length h) (record { at = args.line.end; what = k; list = at.list; body = at.body; block = at.block })) c.due-kind.ensures in
    elim c.in_default.branch [
      | in_default-via-in-Opens+else-is_some w ↦
          next-cut h at args.line pre.1 pre.4 (sym form ∙ ap form_number w.in-Opens.is) (sym w.is_some.ensures ∙ w.if-is_some.false) _ to
      | in_default-via-in_default w ↦
          next-plain h at args.line pre.1 pre.4 (λ q. no-opens c.row_of.result.form w.in_default.not-Opens (form ∙ q)) _ to
    ]
