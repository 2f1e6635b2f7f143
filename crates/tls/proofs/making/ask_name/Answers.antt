-- The tests are the questions, in their order. Assumes nothing.
use Prim.Native.Nat.{◌≤◌}
use mathlib.Core.Path.{sym, ◌∙◌}
use native.Mathlib.Omega.{arith}
use lib.ListN.{length}
use borrow.Author.Rules.{rules}
use borrow.Author.Tests.{le-leb}
use Rattle.tls.specs.Make.{ask_name}
use Rattle.tls.proofs.making.ask_name.Goals as goal

pub returns-then-not-contains : goal.returns-then-not-contains
unfolding ask_name
returns-then-not-contains c =
    let range = c.new.ensures in
    let outside = rw (range.start, range.end, range.exhausted) at c.if-not-contains.ensures.value in
    grind (arith, outside)

pub returns-then-not-is_plain : goal.returns-then-not-is_plain
unfolding ask_name
returns-then-not-is_plain c =
    let n = length c.args.name.now in
    let some : 1 ≤ n = search rules in
    let short : n ≤ 255 = search rules in
    simp (le-leb _ _ some, le-leb _ _ short, sym c.is_plain.ensures ∙ c.if-not-is_plain.true)

pub returns : goal.returns
unfolding ask_name
returns c =
    let n = length c.args.name.now in
    let some : 1 ≤ n = search rules in
    let short : n ≤ 255 = search rules in
    simp (le-leb _ _ some, le-leb _ _ short, sym c.is_plain.ensures ∙ c.if-not-is_plain.false)
