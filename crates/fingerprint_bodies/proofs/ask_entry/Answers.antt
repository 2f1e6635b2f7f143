-- `ask_entry` finds the entry's form in the four tests: a name that reaches the end has a byte where four bytes are there. Assumes nothing.
use mathlib.Core.Path.{◌≡◌, sym, ap, ◌∙◌}
use mathlib.Core.Option.{Option}
use mathlib.Core.List.{List}
use Prim.Native.Nat.{ℕ}
use lib.ListN.{drop}
use Rattle.wire.proofs.ListLaws.{part_to_end}
use Rattle.fingerprint_bodies.specs.Code.{is_whole, formed}
use Rattle.fingerprint_bodies.proofs.FormLaws.{entry-few, entry-type, entry_other, entry_whole}
use borrow.Author.Rules.{rules}
use Rattle.fingerprint_bodies.proofs.ask_entry.Goals as goal
use Rattle.fingerprint_bodies.proofs.ask_entry.Goals.{After-is_whole}

asked : (c : After-is_whole) → is_whole 2 (drop 1 c.args.list.now) ≡ c.is_whole.result
asked c = sym (rw (part_to_end c.args.list.now 1) at c.is_whole.ensures)

pub returns-then-n-lt4 : goal.returns-then-n-lt4
unfolding formed
returns-then-n-lt4 c = sym (ap (λ (x : Option (List ℕ)). formed x) (entry-few c.args.list.now c.if-n-lt4.true))

pub returns-then-list-ne0 : goal.returns-then-list-ne0
unfolding formed
returns-then-list-ne0 c = sym (ap (λ (x : Option (List ℕ)). formed x) (entry-type c.args.list.now (search rules) c.if-list-ne0.true))

pub returns-then-is_whole : goal.returns-then-is_whole
unfolding formed
returns-then-is_whole c = sym (ap (λ (x : Option (List ℕ)). formed x) (entry_whole c.args.list.now (search rules) c.if-list-ne0.false (asked (goal.at.returns-then-is_whole c).After-is_whole ∙ c.if-is_whole.true)))

pub returns : goal.returns
unfolding formed
returns c = sym (ap (λ (x : Option (List ℕ)). formed x) (entry_other c.args.list.now (search rules) c.if-list-ne0.false (asked (goal.at.returns c).After-is_whole ∙ c.if-is_whole.false)))
