-- Two numbers are read, as in `parameter_front`. Assumes nothing.
use mathlib.Core.Path.{◌∙◌}
use lib.ListN.{drop}
use Rattle.wire.proofs.ListLaws.{part_to_end}
use Rattle.varint.specs.Varint.{Found}
use Rattle.std.specs.Prelude.{Ok}
use Rattle.show_lines.proofs.CodeLaws.{no-id, no_length, whole-front}
use Rattle.show_lines.proofs.cursor.parameter.Goals as goal
use Rattle.show_lines.proofs.cursor.parameter.Goals.{In-Ok, In-Ok-read}

id-found : (c : In-Ok) → Found c.args.rest.now (Ok c.in-Ok.id)
id-found c = rw c.in-Ok.is at c.read.ensures

length_found : (c : In-Ok-read) →
    let args = c.args in
    Found (drop c.in-Ok.id.width args.rest.now) (Ok c.in-Ok-read.length)
length_found c =
    let args = c.args in
    rw (part_to_end args.rest.now c.in-Ok.id.width, c.in-Ok-read.is) at c.read-2.ensures

pub returns-in_default : goal.returns-in_default
returns-in_default c =
    let args = c.args in
    c.rest_line.ensures ∙ no-id args.at args.rest.now _ (rw c.in_default.is at c.read.ensures)

pub returns-in_default-read : goal.returns-in_default-read
returns-in_default-read c =
    let args = c.args in
    let s = args.rest.now in
    let f = rw (part_to_end s c.in-Ok.id.width, c.in_default-read.is) at c.read-2.ensures in
    c.rest_line-in_default-read.ensures ∙ no_length args.at s _ (id-found (goal.at.returns-in_default-read c).In-Ok) _ f

pub returns : goal.returns
returns c =
    let args = c.args in
    let at-id = (goal.at.returns c).In-Ok in
    let at_length = (goal.at.returns c).In-Ok-read in
    c.vector.ensures ∙ whole-front args.at args.rest.now _ (id-found at-id) _ (length_found at_length)
