-- Marks by the rest modulo 64: a number without one has not stood before. Assumes nothing.
use Prim.Native.Nat.{ℕ, ◌%◌}
use mathlib.Core.Path.{◌≡◌, refl, sym, ap, ◌∙◌}
use mathlib.Core.Bool.{Bool, true, false, true≢false}
use mathlib.Core.List.{List, [], ◌∷◌, ◌++◌}
use native.Mathlib.Decide.{ℕ_discrete}
use native.Mathlib.Omega.{arith}
use lib.ListN.{length, set, get_or}
use lib.Seq.{get_or-set_same, get_or-set_other}
use Rattle.wire.specs.Sums.{member}
use Rattle.wire.proofs.SumLaws.{member-nil}
use Rattle.fingerprint_parameters.specs.Code.{Marked}
use Rattle.fingerprint_parameters.proofs.MemberLaws.{member-last}

pub marked-none : (marks : List Bool) → Marked marks []
marked-none marks x e = absurd (true≢false (sym e ∙ member-nil x))

pub unmarked-new : (marks : List Bool) (l : List ℕ) (x : ℕ) → Marked marks l → get_or marks (x % 64) false ≡ false → member x l ≡ false
unmarked-new marks l x m e = go (member x l) refl
  where
    go : (t : Bool) → member x l ≡ t → t ≡ false
    go false q = refl
    go true q = absurd (true≢false (sym (m x q) ∙ e))

-- a number more, and its mark is set
pub marked_next : (marks : List Bool) (l : List ℕ) (n : ℕ) → length marks ≡ 64 → Marked marks l → Marked (set marks (n % 64) true) (l ++ (n ∷ []))
marked_next marks l n s m x e = go (ℕ_discrete (x % 64) (n % 64))
  where
    go : Dec (x % 64 ≡ n % 64) → get_or (set marks (n % 64) true) (x % 64) false ≡ true
    go (yes p) = rw p (get_or-set_same marks (n % 64) true false (omega (arith, s)))
    go (no q) =
        rw (get_or-set_other marks (n % 64) (x % 64) true false q) (m x (member-last x n l (λ z. q (ap (λ (k : ℕ). k % 64) z)) e))
