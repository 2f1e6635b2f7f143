-- A closed input that tells the shuffle from wrong ones; document 01's own, with zero draws, is in crates/laws_samples. Assumes nothing.
use Prim.Native.Nat.{ℕ}
use mathlib.Core.Path.{◌≡◌, refl}
use mathlib.Core.List.{[], ◌∷◌, ◌++◌}
use lib.ListN.{replicate}
use Rattle.wire.specs.Sums.{swapped}
use Rattle.tape.specs.Tape.{rand_bytes, lowest_first, next_u64, remainders, swaps, shuffle}

-- draws 3, 1 and 0: places 3 and 3, 2 and 1, 1 and 0 are exchanged. A shuffle that goes upward gives 2, 3, 4, 1; one that takes the draw
-- mod i gives 3, 4, 2, 1.
pub shuffled : shuffle {A = ℕ} 0 (1 ∷ 2 ∷ 3 ∷ 4 ∷ []) ((3 ∷ replicate 7 0) ++ (1 ∷ replicate 15 0)) 0 ≡ 3 ∷ 1 ∷ 2 ∷ 4 ∷ []
unfolding swapped rand_bytes lowest_first next_u64 remainders swaps shuffle
shuffled = refl
