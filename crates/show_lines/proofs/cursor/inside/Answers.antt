-- An extension by its type; suites by their length; any other by its row. Assumes nothing.
use mathlib.Core.Path.{◌∙◌, ap}
use Rattle.fingerprint_bodies.specs.Body.{Kind}
use Rattle.fingerprint.specs.Code.{slot}
use Rattle.show_lines.specs.Grammar.{body_line}
use Rattle.show_lines.specs.Rows.{kind_number, cursor_of}
use Rattle.show_lines.proofs.KindLaws.{other_kind}
use Rattle.show_lines.proofs.CodeLaws.{type-there, inside-extension, inside-suites, inside-whole, inside-other}
use Rattle.show_lines.proofs.cursor.inside.Goals as goal

pub be16-requires : goal.be16-requires
be16-requires c =
    let args = c.args in
    let pre = c.requires in
    type-there args.hello.now (cursor_of args.c) args.line pre.3 (ap kind_number c.in-Extension.is) pre.2 pre.1 pre.0

pub returns-in-Extension : goal.returns-in-Extension
returns-in-Extension c =
    let args = c.args in
    c.body_line.ensures
    ∙ ap (λ (k : Kind). body_line (slot k)) c.from.ensures
    ∙ inside-extension args.hello.now (cursor_of args.c) args.line (ap kind_number c.in-Extension.is) _ c.be16.ensures

pub returns-then-hello-line : goal.returns-then-hello-line
returns-then-hello-line c =
    let args = c.args in
    inside-suites args.hello.now (cursor_of args.c) args.line (ap kind_number c.in-CipherSuites.is) c.if-hello-line.true

pub returns-else-hello-line : goal.returns-else-hello-line
returns-else-hello-line c =
    let args = c.args in
    c.requires.4 ∙ inside-whole args.hello.now (cursor_of args.c) args.line (ap kind_number c.in-CipherSuites.is) c.if-hello-line.false

pub returns-in_default : goal.returns-in_default
returns-in_default c =
    let args = c.args in
    let other = other_kind args.c.kind in
    c.requires.4
    ∙ inside-other args.hello.now (cursor_of args.c) args.line (other _ c.in_default.not-Extension) (other _ c.in_default.not-CipherSuites)
