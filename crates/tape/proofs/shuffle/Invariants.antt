-- The loop keeps: the swaps for the places below i, on what stands, are the whole shuffle. Assumes nothing.
use Prim.Native.Nat.{◌+◌, ◌-◌, ◌*◌}
use mathlib.Core.Path.{◌≡◌}
use lib.ListN.{length}
use Rattle.tape.specs.Tape.{remainders, swaps, shuffle, after_shuffle}
use Rattle.tape.proofs.shuffle.Given as goal

abbrev pub invariant-loop-i : goal.invariant-loop-i
invariant-loop-i g l =
    (l.next + 8 * (l.i - 1) ≡ after_shuffle (length l.initial.v) l.at)
    × ((d : _) → swaps d (l.i - 1) l.v (remainders (l.i - 1) l.tape l.next) ≡ shuffle d l.initial.v l.tape l.at)
