-- A first byte that is not 01; else what the row says. Assumes nothing.
use mathlib.Core.Path.{ap, ◌∙◌}
use Rattle.show_lines.specs.Rows.{kind_number, cursor_of}
use Rattle.show_lines.proofs.KindLaws.{other_kind}
use Rattle.show_lines.proofs.CodeLaws.{due-none, due-hello, due-other}
use Rattle.show_lines.proofs.cursor.due.Goals as goal
use Rattle.show_lines.proofs.cursor.due.Goals.{in_default-via-in-MsgType+else-hello-at-ne1, in_default-via-in_default}

pub returns-in-MsgType : goal.returns-in-MsgType
returns-in-MsgType c =
    let args = c.args in
    due-none args.hello.now (cursor_of args.c) (ap kind_number c.in-MsgType.is) c.if-hello-at-ne1.true

pub returns-in_default : goal.returns-in_default
returns-in_default c =
    let h = c.args.hello.now in
    let at = cursor_of c.args.c in
    c.row_of.ensures.follows
    ∙ elim c.in_default.branch [
      | in_default-via-in-MsgType+else-hello-at-ne1 w ↦ due-hello h at (ap kind_number w.in-MsgType.is) w.if-hello-at-ne1.false
      | in_default-via-in_default w ↦ due-other h at (other_kind c.args.c.kind _ w.in_default.not-MsgType)
    ]
