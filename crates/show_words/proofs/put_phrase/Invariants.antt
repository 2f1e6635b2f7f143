-- `put_phrase` meets its contract: what stands so far is a text. Assumes nothing.
use Prim.Native.Nat.{◌≤◌}
use mathlib.Core.Path.{◌≡◌}
use lib.ListN.{length}
use Rattle.show_words.specs.Code.{Wrote}
use Rattle.show_words.proofs.put_phrase.Given as goal

abbrev pub invariant-loop-piece : goal.invariant-loop-piece
invariant-loop-piece l = (l.used ≤ length l.out) × (length l.out ≡ length l.initial.out) × Wrote l.used l.initial.out l.out
