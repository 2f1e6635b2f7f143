-- `alike::names::same_name` meets its contract: the names are those of the case that each is. Assumes nothing.
use mathlib.Core.Path.{◌∙◌}
use Rattle.alike.specs.Alike.{same_name}
use Rattle.alike.proofs.AnswerLaws.{parts-as}
use Rattle.alike.proofs.names.same_name.Goals as goal

pub returns-in-Some-Some : goal.returns-in-Some-Some
unfolding same_name
returns-in-Some-Some c =
    let here = c.in-Some-Some in
    rw (here.is-0, here.is-1) (c.eq.ensures ∙ parts-as c.part.ensures c.part-in-Some-Some.ensures)

pub returns-in-None-None : goal.returns-in-None-None
unfolding same_name
returns-in-None-None c =
    let here = c.in-None-None in
    rw (here.is-0, here.is-1)

pub returns-in_default : goal.returns-in_default
unfolding same_name
returns-in_default c =
    let here = c.in_default in
    rw (here.is-0, here.is-1)

pub returns-in_default-2 : goal.returns-in_default-2
unfolding same_name
returns-in_default-2 c =
    let here = c.in_default in
    rw (here.is-0, here.is-1)
