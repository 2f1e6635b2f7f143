-- The key shares of a made hello: their bytes, their form, their groups. Assumes nothing.
use Prim.Native.Nat.{ℕ, suc, ◌+◌, ◌≤◌, ◌<◌}
use mathlib.Core.Path.{◌≡◌, refl, ap}
use mathlib.Core.Bool.{Bool, true, false, cond}
use mathlib.Core.List.{List, [], ◌∷◌, map}
use native.Mathlib.Omega.{arith}
use lib.ListN.{length, get_or}
use lib.Dec.{eqb, lit<, lit≤}
use Rattle.wire.specs.Numbers.{Bytes}
use Rattle.wire.specs.Vectors.{vector}
use Rattle.profiles.specs.Sizes.{key_share_size, key_draws}
use Rattle.tape.specs.Tape.{rand_bytes}
use Rattle.tls_extensions.specs.Extensions.{key_of, key_share, key_shares}
use Rattle.tls_extensions.proofs.LengthLaws.{length-key-of}
use Rattle.fingerprint_bodies.specs.Body.{encode_share, encode_shares}
use Rattle.fingerprint_bodies.specs.Conditions.{All, FormedShare, FormedShares, Fits}
use Rattle.fingerprint_bodies.specs.Forms.{group_of}
use Rattle.laws_read_back.proofs.ByteLaws.{bytes-cons, bytes-drawn}
use Rattle.laws_read_back.proofs.Value.{made_shares}

share-bytes : (g : ℕ) (tape : List ℕ) (at : ℕ) → encode_share (record { group = g; key = key_of g tape at }) ≡ (key_share g tape at).bytes
unfolding encode_share vector key_share
share-bytes g tape at = rw (length-key-of g tape at)

pub shares-bytes : (gs tape : List ℕ) (at : ℕ) → encode_shares (made_shares gs tape at) ≡ (key_shares gs tape at).bytes
unfolding encode_shares made_shares key_shares key_share
shares-bytes [] tape at = refl
shares-bytes (g ∷ gs) tape at = rw (share-bytes g tape at, shares-bytes gs tape (at + key_draws g))

-- in order
pub shares-groups : (gs tape : List ℕ) (at : ℕ) → map group_of (made_shares gs tape at) ≡ gs
unfolding made_shares
shares-groups [] tape at = refl
shares-groups (g ∷ gs) tape at = ap (λ (l : List ℕ). g ∷ l) (shares-groups gs tape (at + key_draws g))

length-shares : (gs tape : List ℕ) (at : ℕ) → length (made_shares gs tape at) ≡ length gs
unfolding made_shares
length-shares [] tape at = refl
length-shares (g ∷ gs) tape at = omega (arith, length-shares gs tape (at + key_draws g))

-- ---- their form

size-bounds : (g : ℕ) → (1 ≤ key_share_size g) × (key_share_size g < 65536)
unfolding key_share_size
size-bounds g = go (eqb g 0x0017) (eqb g 0x11ec)
  where
    go : (a b : Bool) → (1 ≤ cond a 65 (cond b 1216 32)) × (cond a 65 (cond b 1216 32) < 65536)
    go true b = (lit≤ tt, lit< tt)
    go false true = (lit≤ tt, lit< tt)
    go false false = (lit≤ tt, lit< tt)

module _ (tape : List ℕ) (b : Bytes tape) where
  bytes-key : (g at : ℕ) → Bytes (key_of g tape at)
  unfolding key_of
  bytes-key g at = go (eqb g 0x0017)
    where
      go : (t : Bool) → Bytes (cond t (0x04 ∷ rand_bytes (key_draws g) tape at) (rand_bytes (key_draws g) tape at))
      go true = bytes-cons 0x04 (rand_bytes (key_draws g) tape at) (lit< tt) (bytes-drawn (key_draws g) tape at b)
      go false = bytes-drawn (key_draws g) tape at b

  formed-share : (g at : ℕ) → g < 65536 → FormedShare (record { group = g; key = key_of g tape at })
  formed-share g at h =
      let long = length-key-of g tape at in
      let bounds = size-bounds g in
      record { small = h; key = record { some = omega arith; fits = omega arith; bytes = bytes-key g at } }

  formed-each : (gs : List ℕ) (at : ℕ) → ((j : ℕ) → get_or gs j 0 < 65536) → All FormedShare (made_shares gs tape at)
  unfolding made_shares
  formed-each [] at h = tt
  formed-each (g ∷ gs) at h = (formed-share g at (h 0), formed-each gs (at + key_draws g) (λ j. h (suc j)))

  pub formed-shares : (gs : List ℕ) (at : ℕ) → length gs ≤ 64 → ((j : ℕ) → get_or gs j 0 < 65536) → Fits 2 (encode_shares (made_shares gs tape at))
      → FormedShares (made_shares gs tape at)
  formed-shares gs at few small fits = record { few = omega (arith, length-shares gs tape at); each = formed-each gs at small; fits = fits }
