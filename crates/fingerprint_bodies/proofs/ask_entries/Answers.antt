-- `ask_entries` counts the entries: k so far and those still to come are all of them. Assumes nothing.
use mathlib.Core.Path.{◌≡◌, sym, ◌∙◌}
use mathlib.Core.Option.{none, some}
use lib.ListN.{drop}
use mathlib.Core.Bool.{true}
use Rattle.wire.proofs.ListLaws.{part_to_end}
use borrow.Author.Tests.{le-leb, lt-leb}
use Rattle.fingerprint_bodies.specs.Entries.{bind, whole, at_least, all_entries}
use Rattle.fingerprint_bodies.specs.Code.{is_whole, within}
use Rattle.fingerprint_bodies.proofs.EntryLaws.{counting-start, counting-next, counting_cut, counting-end}
use Rattle.fingerprint_bodies.proofs.FormLaws.{whole-reaches, counted, list-other, list-counted}
use Rattle.fingerprint_bodies.proofs.ask_entries.Goals as goal
use Rattle.fingerprint_bodies.proofs.ask_entries.Goals.{Else-not-is_whole, Else-not-is_empty}
use Rattle.fingerprint_bodies.proofs.ask_entries.Given.{Over}

-- the list's bytes are those after the length, where this reaches exactly the end
reaches : (g : Over) (c : Else-not-is_whole g) → is_whole 2 c.args.body.now ≡ true
reaches g c = sym c.is_whole.ensures ∙ c.if-not-is_whole.false

pub returns-then-not-is_whole : goal.returns-then-not-is_whole
returns-then-not-is_whole g c = sym (list-other g.E.Listed.form c.args.least c.args.most c.args.body.now (sym c.is_whole.ensures ∙ c.if-not-is_whole.true))

pub slice_bounds-of-count : goal.slice_bounds-of-count
slice_bounds-of-count g c = whole-reaches 2 c.args.body.now (reaches g (goal.at.slice_bounds-of-count g c).Else-not-is_whole)

pub slice_bounds-of-start : goal.slice_bounds-of-start
slice_bounds-of-start g c = whole-reaches 2 c.args.body.now (reaches g (goal.at.slice_bounds-of-start g c).Else-not-is_whole)

pub loop-k-init : goal.loop-k-init
loop-k-init g c = rw (c.of-entries.ensures, part_to_end c.args.body.now 2) (counting-start g.E.Listed.form (drop 2 c.args.body.now))

pub loop-k-preserved : goal.loop-k-preserved
loop-k-preserved g c = counting-next g.E.Listed.form (drop 2 c.args.body.now) c.loop-k.invariant _ _ c.in-Some.ensures.steps

pub returns-then-not-is_empty : goal.returns-then-not-is_empty
returns-then-not-is_empty g c =
    let form = g.E.Listed.form in
    let body = c.args.body.now in
    let cut = counting_cut form (drop 2 body) c.loop-k.invariant c.in_default.ensures.steps (sym c.is_empty.ensures ∙ c.if-not-is_empty.true) in
    sym (list-counted form c.args.least c.args.most body none (sym c.is_whole.ensures ∙ c.if-not-is_whole.false) cut)

-- where all were whole, so many are asked
asked : (g : Over) (c : Else-not-is_empty g) →
    within c.args.most (bind (whole 2 c.args.body.now) (λ l. bind (all_entries g.E.Listed.form l) (at_least c.args.least)))
    ≡ counted c.args.least c.args.most (some c.loop-k.k)
asked g c =
    let form = g.E.Listed.form in
    let body = c.args.body.now in
    let all = counting-end form (drop 2 body) c.loop-k.invariant c.in_default.ensures.steps (sym c.is_empty.ensures ∙ c.if-not-is_empty.false) in
    list-counted form c.args.least c.args.most body (some c.loop-k.k) (sym c.is_whole.ensures ∙ c.if-not-is_whole.false) all

pub returns-then-k-least : goal.returns-then-k-least
returns-then-k-least g c = sym (asked g (goal.at.returns-then-k-least g c).Else-not-is_empty ∙ rw (lt-leb c.args.least c.loop-k.k c.if-k-least.true))

pub returns-then-most-k : goal.returns-then-most-k
returns-then-most-k g c =
    sym (asked g (goal.at.returns-then-most-k g c).Else-not-is_empty ∙ rw (le-leb c.args.least c.loop-k.k c.if-k-least.false, lt-leb c.loop-k.k c.args.most c.if-most-k.true))

pub returns : goal.returns
returns g c =
    sym (asked g (goal.at.returns g c).Else-not-is_empty ∙ rw (le-leb c.args.least c.loop-k.k c.if-k-least.false, le-leb c.loop-k.k c.args.most c.if-most-k.false))
