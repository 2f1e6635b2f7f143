-- Key shares: the key of secp256r1 and that of another group, and the shares from a place in the list on. Assumes nothing.
use Prim.Native.Nat.{ℕ, ◌+◌, ◌≤◌, ◌<◌}
use mathlib.Core.Path.{◌≡◌}
use mathlib.Core.Logic.{◌≢◌}
use mathlib.Core.List.{List, [], ◌∷◌}
use native.Mathlib.Numerals.{add-one}
use native.Mathlib.Omega.{arith}
use lib.ListN.{length, drop, get_or}
use lib.Seq.{drop-cons}
use borrow.Author.Tests.{eq-eqb, ne_eqb}
use Rattle.profiles.specs.Sizes.{key_share_size, key_draws}
use Rattle.tape.specs.Tape.{rand_bytes}
use Rattle.tape.specs.Part.{followed}
use Rattle.tls_extensions.specs.Extensions.{key_of, key_share, key_shares}

module _ {g : ℕ} (e : g ≡ 23) where
  pub size-secp : key_share_size g ≡ 65
  unfolding key_share_size
  size-secp = rw (eq-eqb g 23 e)

  pub draws-secp : key_draws g ≡ 64
  unfolding key_draws
  draws-secp = rw (eq-eqb g 23 e, size-secp)

  -- 04, and what is drawn
  pub key-secp : (tape : List ℕ) (at : ℕ) → key_of g tape at ≡ 4 ∷ rand_bytes 64 tape at
  unfolding key_of
  key-secp tape at = rw (eq-eqb g 23 e, draws-secp)

module _ {g : ℕ} (e : g ≢ 23) where
  pub draws-other : key_draws g ≡ key_share_size g
  unfolding key_draws
  draws-other = rw (ne_eqb g 23 e)

  pub key-other : (tape : List ℕ) (at : ℕ) → key_of g tape at ≡ rand_bytes (key_share_size g) tape at
  unfolding key_of
  key-other tape at = rw (ne_eqb g 23 e, draws-other)

-- the shares from place i on: the one at i, and those after it
pub shares-from : (gs tape : List ℕ) (i t : ℕ) → i < length gs
    → key_shares (drop i gs) tape t ≡ followed (key_share (get_or gs i 0) tape t) (key_shares (drop (i + 1) gs) tape)
unfolding key_shares
shares-from gs tape i t h = rw (add-one, drop-cons gs i 0 h)

pub shares-rise : (gs tape : List ℕ) (at : ℕ) → at ≤ (key_shares gs tape at).next
unfolding key_shares key_share
shares-rise [] tape at = omega arith
shares-rise (g ∷ gs) tape at = omega (arith, shares-rise gs tape (at + key_draws g))
