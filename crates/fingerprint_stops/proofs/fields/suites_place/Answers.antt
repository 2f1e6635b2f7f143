-- `suites_place` asks what the definition asks of the suites, and goes on after them. Assumes nothing.
use mathlib.Core.Path.{◌≡◌, sym, ◌∙◌}
use lib.ListN.{take, drop}
use Rattle.wire.specs.Numbers.{number}
use Rattle.wire.proofs.ListLaws.{part_to_end}
use Rattle.fingerprint_stops.proofs.FieldLaws.{suites-short, suites-few, suites-odd, suites-cut, suites-there}
use borrow.Author.Rules.{rules}
use Rattle.fingerprint_stops.proofs.fields.suites_place.Goals as goal
use Rattle.fingerprint_stops.proofs.fields.suites_place.Goals.{After-from-length}

count : (c : After-from-length) →
    let args = c.args in
    number 256 (take 2 (drop args.at args.hello.now)) ≡ c.from-length.result
count c =
    let args = c.args in
    sym (c.from-length.ensures ∙ rw (part_to_end args.hello.now args.at) at c.be16.ensures)

pub returns-then-n-at-lt2 : goal.returns-then-n-at-lt2
returns-then-n-at-lt2 c = suites-short c.args.hello.now c.args.at c.if-n-at-lt2.true

pub returns-then-length-lt2 : goal.returns-then-length-lt2
returns-then-length-lt2 c =
    let args = c.args in
    suites-few args.hello.now args.at (search rules) c.from-length.result (count (goal.at.returns-then-length-lt2 c).After-from-length) c.if-length-lt2.true

pub returns-then-length-ne0 : goal.returns-then-length-ne0
returns-then-length-ne0 c =
    let args = c.args in
    suites-odd args.hello.now args.at (search rules) c.from-length.result (count (goal.at.returns-then-length-ne0 c).After-from-length) c.if-length-lt2.false c.if-length-ne0.true

pub returns-then-n-at : goal.returns-then-n-at
returns-then-n-at c =
    let args = c.args in
    suites-cut args.hello.now args.at (search rules) c.from-length.result (count (goal.at.returns-then-n-at c).After-from-length) c.if-n-at.true

pub returns : goal.returns
returns c =
    let args = c.args in
    let asks = (goal.at.returns c).After-from-length in
    let tests = c in
    c.compression_place.ensures
    ∙ suites-there args.hello.now args.at (search rules) asks.from-length.result (count asks) tests.if-length-lt2.false c.if-length-ne0.false c.if-n-at.false
