-- The bytes of a line: blanks and runs. Assumes nothing.
use Prim.Native.Nat.{ℕ, zero, suc, ◌≤◌}
use mathlib.Core.Path.{◌≡◌, refl, ap}
use mathlib.Core.List.{List, ◌∷◌}
use native.Mathlib.Nat.{not-suc-le-zero}
use native.Mathlib.Omega.{arith}
use lib.ListN.{take, replicate}

pub take-replicate : (x k n : ℕ) → k ≤ n → take k (replicate n x) ≡ replicate k x
take-replicate x zero n h = refl
take-replicate x (suc k) zero h = absurd (not-suc-le-zero h)
take-replicate x (suc k) (suc n) h = ap (λ (l : List ℕ). x ∷ l) (take-replicate x k n (omega arith))
