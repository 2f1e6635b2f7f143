-- Each extension writes and draws as many bytes as the profile's sums have for it, for every profile, name, connection id, tape and
-- place on it. Assumes nothing.
use Prim.Native.Nat.{ℕ, ◌+◌, ◌-◌, ◌*◌, ◌≤◌}
use mathlib.Core.Path.{◌≡◌, refl}
use mathlib.Core.Bool.{Bool, true, false, cond}
use mathlib.Core.List.{List, [], ◌∷◌}
use native.Mathlib.Nat.{le_refl}
use native.Mathlib.Omega.{arith}
use lib.ListN.{length}
use lib.Dec.{eqb}
use Rattle.wire.specs.Sums.{total}
use Rattle.profiles.specs.Profile.{Parameter, Profile}
use Rattle.profiles.specs.Sizes.{Extent, written-only, key_share_size, key_draws, parameter_draws, parameter_length, fixed_length, extension_extent}
use Rattle.tape.specs.Tape.{next_u64, payload_length}
use Rattle.tape.specs.Part.{Part, undrawn}
use Rattle.tls_extensions.specs.Extensions.{ext_key_share, ext_encrypted_client_hello, fixed_extension}
use Rattle.tls_extensions.proofs.LengthLaws as law
use Rattle.tls_parameters.specs.Parameters.{ext_quic_tp}
use Rattle.tls_parameters.proofs.LengthLaws.{length-ext-quic-tp, next-ext-quic-tp}
use Rattle.tls.specs.Hello.{build_extension, build_extensions}

-- a part that draws from a place on has these extents
pub record Extends (at : ℕ) (a : Part) (e : Extent) : Type 0 where
  pub long : length a.bytes ≡ e.written
  pub ends : a.next ≡ at + e.drawn

-- ---- one extension

still : {at n : ℕ} {bs : List ℕ} → length bs ≡ n → Extends at (undrawn bs at) (written-only n)
still h = record { long = h; ends = omega arith }

key-share : (gs tape : List ℕ) (at : ℕ)
    → Extends at (ext_key_share gs tape at) (record { written = 6 + total (λ g. 4 + key_share_size g) gs; drawn = total key_draws gs })
unfolding ext_key_share
key-share gs tape at = record { long = law.length-ext-key-share gs tape at; ends = law.next-key-shares gs tape at }

quic-tp : (ps : List Parameter) (scid tape : List ℕ) (at : ℕ)
    → Extends at (ext_quic_tp ps scid tape at)
    (record { written = 4 + total (parameter_length (length scid)) ps; drawn = total parameter_draws ps + 8 * (length ps - 1) })
quic-tp ps scid tape at = record { long = length-ext-quic-tp ps scid tape at; ends = next-ext-quic-tp ps scid tape at }

ech : (tape : List ℕ) (at pay : ℕ) → pay ≡ payload_length (next_u64 tape (at + 40))
    → Extends at (ext_encrypted_client_hello tape at) (record { written = 46 + pay; drawn = 48 + pay })
unfolding ext_encrypted_client_hello
ech tape at pay h = record { long = omega (arith, law.length-encrypted-client-hello tape at); ends = omega arith }

-- those whose bytes are the same in every hello
pick : (b : Bool) (x y : List ℕ) {m n : ℕ} → length x ≡ m → length y ≡ n → length (cond b x y) ≡ cond b m n
pick true x y h k = h
pick false x y h k = k

fixed-length : (t : ℕ) → length (fixed_extension t) ≡ fixed_length t
unfolding fixed_extension fixed_length
fixed-length t =
    pick (eqb t 0x002d) _ _ law.length-psk-ke-modes
    (pick (eqb t 0x001c) _ _ law.length-record-size-limit
    (pick (eqb t 0xff01) _ _ law.length-reneg-info
    (pick (eqb t 0x0005) _ _ law.length-status-request
    (pick (eqb t 0x0017) _ _ law.length-extended-master-secret
    (pick (eqb t 0x0022) _ _ law.length-delegated-credentials
    (pick (eqb t 0x44cd) _ _ law.length-application-settings refl))))))

either : (at : ℕ) (b : Bool) (x y : Part) {d e : Extent} → Extends at x d → Extends at y e → Extends at (cond b x y) (cond b d e)
either at true x y h k = h
either at false x y h k = k

when : (at : ℕ) (b : Bool) (x y : Part) {d e : Extent} → (b ≡ true → Extends at x d) → Extends at y e
    → Extends at (cond b x y) (cond b d e)
when at true x y h k = h refl
when at false x y h k = k

-- What each extension writes, and "what each extension needs" of the tape. Of ECH, pay is "P = 150 + (draw mod 51)", drawn after 8 bytes
-- for the config id and 32 for the key; of another, pay plays no part.
pub extension-extent : (p : Profile) (name scid tape : List ℕ) (t at pay : ℕ)
    → (eqb t 0xfe0d ≡ true → pay ≡ payload_length (next_u64 tape (at + 40)))
    → Extends at (build_extension p name scid tape t at) (extension_extent p (length name) (length scid) pay t)
unfolding build_extension extension_extent
extension-extent p name scid tape t at pay h =
    either at (eqb t 0x0000) _ _ (still (law.length-server-name name))
    (either at (eqb t 0x0010) _ _ (still (law.length-alpn p.alpn))
    (either at (eqb t 0x000a) _ _ (still (law.length-u16-list 0x000a p.supported_groups))
    (either at (eqb t 0x000d) _ _ (still (law.length-u16-list 0x000d p.signature_algorithms))
    (either at (eqb t 0x002b) _ _ (still (law.length-supported-versions p.supported_versions))
    (either at (eqb t 0x0033) _ _ (key-share p.key_share_groups tape at)
    (either at (eqb t 0x0039) _ _ (quic-tp p.quic_tp scid tape at)
    (either at (eqb t 0x001b) _ _ (still (law.length-compress-cert p.firefox_compression))
    (when at (eqb t 0xfe0d) _ _ (λ e. ech tape at pay (h e))
    (still (fixed-length t))))))))))

-- ---- places on the tape rise

pub extension-rises : (p : Profile) (name scid tape : List ℕ) (t at : ℕ) → at ≤ (build_extension p name scid tape t at).next
extension-rises p name scid tape t at =
    omega (arith, (extension-extent p name scid tape t at (payload_length (next_u64 tape (at + 40))) (λ e. refl)).ends)

pub extensions-rise : (p : Profile) (name scid tape ts : List ℕ) (at : ℕ) → at ≤ (build_extensions p name scid tape ts at).next
unfolding build_extensions
extensions-rise p name scid tape [] at = le_refl at
extensions-rise p name scid tape (t ∷ ts) at =
    omega (
      arith,
      extension-rises p name scid tape t at,
      extensions-rise p name scid tape ts (build_extension p name scid tape t at).next,
    )
