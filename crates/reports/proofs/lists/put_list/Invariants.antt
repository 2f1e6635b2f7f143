-- `put_list`: the label and the numbers before the item stand in the output. Assumes nothing.
use Prim.Native.Nat.{ℕ}
use mathlib.Core.List.{List, map}
use lib.ListN.{length, take}
use Rattle.reports.proofs.PartLaws.{Listed}
use Rattle.reports.proofs.lists.put_list.Given as goal

abbrev pub parts : {A : Type 0} → (A → List ℕ) → List A → ℕ → List (List ℕ)
parts text items i = map text (take i items)

abbrev pub invariant-loop-item : goal.invariant-loop-item
invariant-loop-item g l =
    Listed l.label (parts g.T.Entry.text l.items) (length l.items) l.initial.at l.initial.out l.at l.out l.item-index
