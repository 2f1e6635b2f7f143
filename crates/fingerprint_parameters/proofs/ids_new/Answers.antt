-- The ids of the body stand at the front of the array, so what these say the body's say. Assumes nothing.
use Prim.Native.Nat.{ℕ, ◌≤◌}
use mathlib.Core.Path.{◌≡◌, sym, ap, ◌∙◌}
use mathlib.Core.List.{List}
use lib.ListN.{length, replicate, length-replicate, take}
use Rattle.wire.specs.Sums.{distinct}
use Rattle.fingerprint_parameters.specs.Code.{ids_in}
use Rattle.fingerprint_parameters.proofs.AskedLaws.{kept-all}
use Rattle.fingerprint_parameters.proofs.ids_new.Goals as goal
use Rattle.fingerprint_parameters.proofs.ids_new.Goals.{Then-n-le8192}

at-front : (c : Then-n-le8192) → take c.in-Some.n c.read_ids.new.ids ≡ ids_in c.args.body.now
at-front c =
    let room : c.in-Some.n ≤ length {A = ℕ} (replicate 8192 0) = rw (length-replicate {A = ℕ} 8192 0) c.if-n-le8192.true in
    kept-all c.args.body.now _ _ _ (rw c.in-Some.is at c.read_ids.ensures) room

pub returns-in-Rising : goal.returns-in-Rising
returns-in-Rising c = sym (rw (c.in-Rising.is, at-front (goal.at.returns-in-Rising c).Then-n-le8192) at c.in_order.ensures)

pub returns-in-Twice : goal.returns-in-Twice
returns-in-Twice c = sym (rw (c.in-Twice.is, at-front (goal.at.returns-in-Twice c).Then-n-le8192) at c.in_order.ensures)

pub returns-in-Unsorted : goal.returns-in-Unsorted
returns-in-Unsorted c = c.all_new.ensures ∙ ap (λ (l : List ℕ). distinct l) (at-front (goal.at.returns-in-Unsorted c).Then-n-le8192)
