-- What is due, where its part goes on, else what stands after that part. Assumes nothing.
use mathlib.Core.Path.{◌≡◌, sym, ap, ◌∙◌}
use borrow.Author.Tests.{lt-ltb, le-ltb}
use Rattle.show_lines.specs.Lines.{part_of, settled}
use Rattle.show_lines.specs.Rows.{kind_number, part_number}
use Rattle.show_lines.proofs.PartLaws.{NoPart, hello_part, in-suites, in_block, in_body, in_list, in-none}
use Rattle.show_lines.proofs.cursor.settled.Goals as goal
use Rattle.show_lines.proofs.cursor.settled.Goals.{In-Suites, In-Block, In-Body, In-List, In-Hello}

-- the part, by the arm
suites : (c : In-Suites) → part_of (kind_number c.args.c.kind) ≡ 1
suites c = sym c.row_of.ensures.part ∙ ap part_number c.in-Suites.is

block : (c : In-Block) → part_of (kind_number c.args.c.kind) ≡ 2
block c = sym c.row_of.ensures.part ∙ ap part_number c.in-Block.is

body : (c : In-Body) → part_of (kind_number c.args.c.kind) ≡ 3
body c = sym c.row_of.ensures.part ∙ ap part_number c.in-Body.is

list : (c : In-List) → part_of (kind_number c.args.c.kind) ≡ 4
list c = sym c.row_of.ensures.part ∙ ap part_number c.in-List.is

hello : (c : In-Hello) → NoPart (part_of (kind_number c.args.c.kind))
hello c = hello_part (sym c.row_of.ensures.part ∙ ap part_number c.in-Hello.is)

pub returns-then-c : goal.returns-then-c
unfolding settled
returns-then-c c = rw (in-suites _ _ _ _ _ _ (suites (goal.at.returns-then-c c).In-Suites), lt-ltb _ _ c.if-c.true)

pub returns-else-c : goal.returns-else-c
unfolding settled
returns-else-c c = rw (in-suites _ _ _ _ _ _ (suites (goal.at.returns-else-c c).In-Suites), le-ltb _ _ c.if-c.false) c.in_hello-else-c.ensures

pub returns-in-Block : goal.returns-in-Block
unfolding settled
returns-in-Block c = rw (in_block _ _ _ _ _ _ (block (goal.at.returns-in-Block c).In-Block)) c.after_body.ensures

pub returns-then-c-2 : goal.returns-then-c-2
unfolding settled
returns-then-c-2 c = rw (in_body _ _ _ _ _ _ (body (goal.at.returns-then-c-2 c).In-Body), lt-ltb _ _ c.if-c-2.true)

pub returns-else-c-2 : goal.returns-else-c-2
unfolding settled
returns-else-c-2 c = rw (in_body _ _ _ _ _ _ (body (goal.at.returns-else-c-2 c).In-Body), le-ltb _ _ c.if-c-2.false) c.after_body-else-c-2.ensures

pub returns-then-c-3 : goal.returns-then-c-3
unfolding settled
returns-then-c-3 c = rw (in_list _ _ _ _ _ _ (list (goal.at.returns-then-c-3 c).In-List), lt-ltb _ _ c.if-c-3.true)

pub returns-else-c-3 : goal.returns-else-c-3
unfolding settled
returns-else-c-3 c = rw (in_list _ _ _ _ _ _ (list (goal.at.returns-else-c-3 c).In-List), le-ltb _ _ c.if-c-3.false) c.after_list.ensures

pub returns-in-Hello : goal.returns-in-Hello
unfolding settled
returns-in-Hello c = rw (in-none _ _ _ _ _ _ (hello (goal.at.returns-in-Hello c).In-Hello)) c.in_hello.ensures
