-- `alike::counts::times` meets its contract: the count so far and that from the next item on make the count of all. Assumes nothing.
use Prim.Native.Nat.{◌+◌, ◌≤◌}
use mathlib.Core.Path.{◌≡◌}
use lib.ListN.{drop}
use Rattle.wire.specs.Sums.{count}
use Rattle.alike.proofs.counts.times.Given as goal

abbrev pub invariant-loop-item : goal.invariant-loop-item
invariant-loop-item l = (l.n ≤ l.item-index) × (l.n + count l.x (drop l.item-index l.items) ≡ count l.x l.items)
