-- A closed input that tells a key share of secp256r1 from wrong ones. Assumes nothing.
use Prim.Native.Nat.{ℕ}
use mathlib.Core.Path.{◌≡◌, refl}
use mathlib.Core.List.{List, [], ◌∷◌, ◌++◌}
use lib.ListN.{replicate}
use Rattle.wire.specs.Numbers.{digits}
use Rattle.profiles.specs.Sizes.{key_share_size, key_draws}
use Rattle.tape.specs.Tape.{rand_bytes}
use Rattle.tls_extensions.specs.Extensions.{key_of, key_share}

-- a tape on which 64 bytes 07 are followed by 08
unfoldable pub tape : List ℕ
tape = replicate 64 0x07 ++ (0x08 ∷ [])

-- group, length, the 04 of an uncompressed point, and 64 bytes drawn. A writer without the 04 has another byte there; where it draws all
-- 65, the 08 is among them.
pub point : key_share 0x0017 tape 0 ≡ record { bytes = 0x00 ∷ 0x17 ∷ 0x00 ∷ 0x41 ∷ 0x04 ∷ replicate 64 0x07; next = 64 }
unfolding tape digits key_share_size key_draws rand_bytes key_of key_share
point = refl
