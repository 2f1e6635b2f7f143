-- The loop keeps `Later`: the ids are distinct exactly where those still to come are. Assumes nothing.
use mathlib.Core.Path.{◌≡◌, sym, ◌∙◌}
use Rattle.wire.specs.Sums.{member}
use lib.Dec.{eqb}
use Rattle.std.proofs.lemmas.Iterator.Search.{any_from_yields_List}
use Rattle.fingerprint_bodies.proofs.YieldLaws.{yields}
use Rattle.fingerprint_parameters.proofs.MemberLaws.{contains-member}
use Rattle.fingerprint_parameters.proofs.LaterLaws.{ids_form, later-start, after-id, later-twice, later-next, later-end}
use borrow.Author.Rules.{rules}
use borrow.Author.Tests.{tests}
use Rattle.fingerprint_parameters.proofs.each_among_later.Goals as goal
use Rattle.fingerprint_parameters.proofs.each_among_later.Goals.{After-any}

pub loop-id-init : goal.loop-id-init
loop-id-init c = rw c.of-parameters.ensures (later-start c.args.body.now c.requires)

-- it is looked for among those after it
looked : (c : After-any) → c.any.result ≡ member c.in-Some.id (after-id c.loop-id.invariant c.in-Some.ensures.steps).later
looked c =
    let id = c.in-Some.id in
    let next = after-id c.loop-id.invariant c.in-Some.ensures.steps in
    any_from_yields_List (λ later. eqb later id) c.any.new.self _ c.any.result c.any.ensures.ran (yields ids_form (λ s. s.rest.now) {s = c.of.result} c.of.ensures next.holds) (λ x b q k. search (rules, tests))
    ∙ contains-member id next.later

pub returns-then-any : goal.returns-then-any
returns-then-any c = sym (later-twice c.loop-id.invariant c.in-Some.ensures.steps (sym (looked (goal.at.returns-then-any c).After-any) ∙ c.if-any.true))

pub loop-id-preserved : goal.loop-id-preserved
loop-id-preserved c = later-next c.loop-id.invariant c.in-Some.ensures.steps (sym (looked (goal.at.loop-id-preserved c).After-any) ∙ c.if-any.false)

pub returns : goal.returns
returns c = sym (later-end c.loop-id.invariant c.in_default.ensures.steps)
