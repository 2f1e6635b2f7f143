-- A line by its row of the grammar. Assumes nothing.
use mathlib.Core.Path.{sym, ap, ◌∙◌}
use Rattle.show_lines.proofs.GrammarLaws.{width-in-front}
use Rattle.show_lines.specs.Rows.{kind_number, form_number}
use Rattle.show_lines.specs.declared.grammar.Kind.TheVariants as kind
use Rattle.show_lines.proofs.KindLaws.{same-number, other-number}
use Rattle.show_lines.proofs.CodeLaws.{no_vector, column-some, line-parameter, line-all, line-cut, few_bytes, line-vector, line_plain}
use Rattle.show_lines.proofs.cursor.line_of.Goals as goal
use Rattle.show_lines.proofs.cursor.line_of.Goals.{After-row_of-row}

pub returns-then-eq : goal.returns-then-eq
returns-then-eq c =
    let args = c.args in
    c.parameter.ensures ∙ line-parameter (kind_number args.kind) args.at args.rest.now (same-number _ kind.Parameter (sym c.if-eq.ensures))

pub returns-in_default : goal.returns-in_default
returns-in_default c =
    let args = c.args in
    c.rest_line.ensures ∙ line-all (kind_number args.kind) args.at args.rest.now (other-number _ kind.Parameter (sym c.if-eq.ensures)) (sym c.in_default.is ∙ c.row_of-row.ensures.front)

pub returns-then-rest-front : goal.returns-then-rest-front
returns-then-rest-front c =
    let args = c.args in
    c.rest_line-then-rest-front.ensures
    ∙ line-cut (kind_number args.kind) args.at args.rest.now (other-number _ kind.Parameter (sym c.if-eq.ensures)) _
    (sym c.in-Some.is ∙ c.row_of-row.ensures.front) c.if-rest-front.true

pub overflow_sub-front : goal.overflow_sub-front
overflow_sub-front c =
    let row = c.row_of-row.ensures in
    rw (row.width, (column-some _ _ (sym c.in-Some.is ∙ row.front)).0) (width-in-front (kind_number c.args.kind))

pub number-said-requires : goal.number-said-requires
number-said-requires c =
    let row = c.row_of-row.ensures in
    few_bytes (kind_number c.args.kind) c.args.rest.now _ _ (sym c.in-Some.is ∙ row.front) row.width c.if-rest-front.false

pub returns-in-Vector : goal.returns-in-Vector
returns-in-Vector c =
    let args = c.args in
    let row = c.row_of-row.ensures in
    c.vector.ensures
    ∙ line-vector (kind_number args.kind) args.at args.rest.now (other-number _ kind.Parameter (sym c.if-eq.ensures)) _
    (sym c.in-Some.is ∙ row.front) c.if-rest-front.false _ _ row.width c.number-said.ensures
    _ row.form (ap form_number c.in-Vector.is)

pub returns-in_default-form : goal.returns-in_default-form
returns-in_default-form c =
    let args = c.args in
    let row = c.row_of-row.ensures in
    line_plain (kind_number args.kind) args.at args.rest.now (other-number _ kind.Parameter (sym c.if-eq.ensures)) _
    (sym c.in-Some.is ∙ row.front) c.if-rest-front.false _ _ row.width c.number-said.ensures
    _ row.form (no_vector c.row_of-row.result.form c.in_default-form.not-Vector)
