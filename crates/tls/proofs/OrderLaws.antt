-- The order of the extensions: the profile's list, shuffled or not. Assumes nothing.
use Prim.Native.Nat.{ℕ, ◌+◌, ◌-◌, ◌*◌, ◌≤◌, ◌<◌}
use mathlib.Core.Path.{◌≡◌, ◌∙◌}
use mathlib.Core.Bool.{cond}
use mathlib.Core.List.{List, map}
use native.Mathlib.Omega.{arith}
use lib.ListN.{length, take, length-map}
use Rattle.profiles.specs.Sizes.{session_length, after_order}
use Rattle.profiles.specs.Code.{type_number, profile_of, Sound}
use Rattle.profiles.specs.declared.ExtType.{ExtType}
use Rattle.profiles.specs.declared.Profile.{Profile}
use Rattle.tape.specs.Tape.{shuffle}
use Rattle.tls.specs.Hello.{order as order_of}
use Rattle.tls.proofs.BuildLaws.{length-first}

-- what the writer of the extensions is given: their types in order, and the place on the tape after the shuffle
pub record Ordered (p : Profile) (tape : List ℕ) (types : List ExtType) (next : ℕ) : Type 0 where
  pub is : map type_number types ≡ order_of (profile_of p) tape
  pub after : next ≡ after_order (profile_of p)

module _ (p : Profile) (sound : Sound p) {at : ℕ} (e : at ≡ 32 + session_length (profile_of p)) where
  abbrev listed : List ExtType
  listed = take p.extension_count p.extensions_order

  order-ends : at + cond p.randomize_extensions_order (8 * (length listed - 1)) 0 ≡ after_order (profile_of p)
  order-ends = rw (e, length-map listed type_number)

  -- what `put_in_order` asks for
  pub order-room : {t : ℕ} → after_order (profile_of p) ≤ t
      → (length listed < 65536) × (at + cond p.randomize_extensions_order (8 * (length listed - 1)) 0 ≤ t)
  order-room h = (omega (arith, length-first p.extension_count p.extensions_order, sound.extensions), rw order-ends h)

  -- what it gives
  pub ordered : (tape : List ℕ) {types : List ExtType} {next : ℕ} → next ≡ at + cond p.randomize_extensions_order (8 * (length listed - 1)) 0
      → map type_number types ≡ cond p.randomize_extensions_order (shuffle 0 (map type_number listed) tape at) (map type_number listed)
      → Ordered p tape types next
  unfolding order_of
  ordered tape f q = record { is = q ∙ rw e; after = f ∙ order-ends }
