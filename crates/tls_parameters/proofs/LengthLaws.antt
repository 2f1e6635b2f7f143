-- How many bytes parameters and their extension take, and how many they draw. Assumes nothing.
use Prim.Native.Nat.{ℕ, suc, ◌+◌, ◌-◌, ◌*◌, ◌^◌, ◌≤◌, ◌<◌}
use mathlib.Core.Path.{◌≡◌, refl, sym, ap, ◌∙◌}
use mathlib.Core.List.{List, [], ◌∷◌, ◌++◌}
use native.Mathlib.Omega.{arith}
use lib.ListN.{length, length-append}
use borrow.Author.Tests.{lt-ltb, le-ltb}
use Rattle.wire.specs.Numbers.{digits}
use Rattle.wire.specs.Sums.{total}
use Rattle.varint.specs.Varint.{width, first_above, class, shortest}
use Rattle.varint.proofs.RoundTrip.{length-shortest}
use Rattle.profiles.specs.Profile.{Parameter, varint, bytes, version_info, scid_source, grease}
use Rattle.profiles.specs.Sizes.{parameter_draws, parameter_length}
use Rattle.tape.specs.Tape.{rand_bytes, next_u64, grease_id, version_information}
use Rattle.tape.proofs.DrawLaws.{length-rand_bytes}
use Rattle.tape.proofs.DrawnNumbers.{grease-least, grease-below}
use Rattle.tape.proofs.ShuffleLaws.{shuffle-permutes}
use Rattle.tls_extensions.proofs.LengthLaws.{length-extension}
use Rattle.tls_parameters.specs.Parameters.{version, Resolved, none, resolve, resolved, after_parameters, sent_parameters, parameter, parameters, ext_quic_tp}

-- ---- one parameter

pub length-parameter : (id : ℕ) (value : List ℕ) → length (parameter id value) ≡ width (class id) + (width (class (length value)) + length value)
unfolding parameter
length-parameter id value =
    omega (
      arith,
      length-append (shortest id) (shortest (length value) ++ value),
      length-append (shortest (length value)) value,
      length-shortest id,
      length-shortest (length value),
    )

-- the same, by the length of the value
length-of : (id : ℕ) (value : List ℕ) (n : ℕ) → length value ≡ n → length (parameter id value) ≡ width (class id) + (width (class n) + n)
length-of id value n e = rw e at (length-parameter id value)

-- numbers too large for 4 bytes
class-large : (v : ℕ) → 2 ^ 30 ≤ v → v < 2 ^ 62 → class v ≡ 3
unfolding class first_above
class-large v h l = rw (le-ltb v (2 ^ 6) (omega arith), le-ltb v (2 ^ 14) (omega arith), le-ltb v (2 ^ 30) h, lt-ltb v (2 ^ 62) l)

class-grease : (r : ℕ) → class (grease_id r) ≡ 3
class-grease r = class-large (grease_id r) (omega (arith, grease-least r)) (grease-below r)

pub length-version-information : (v r : ℕ) → length (version_information v r) ≡ 12
unfolding version_information digits
length-version-information v r = refl

pub length-resolved-bytes : (p : Parameter) (scid tape : List ℕ) (at : ℕ)
    → length (parameter (resolve p scid tape at).id (resolve p scid tape at).value) ≡ parameter_length (length scid) p
unfolding resolve parameter_length
length-resolved-bytes (varint i v) scid tape at = length-of i (shortest v) (width (class v)) (length-shortest v)
length-resolved-bytes (bytes i b) scid tape at = length-parameter i b
length-resolved-bytes (version_info i) scid tape at = length-of i (version_information version (next_u64 tape at)) 12 (length-version-information version (next_u64 tape at))
length-resolved-bytes (scid_source i) scid tape at = length-parameter i scid
length-resolved-bytes grease scid tape at =
    let drawn = next_u64 tape at in
    rw (class-grease drawn) at (length-of (grease_id drawn) (rand_bytes 6 tape (at + 8)) 6 (length-rand_bytes 6 tape (at + 8)))

-- ---- all of them

pub length-parameters : (rs : List Resolved) → length (parameters rs) ≡ total (λ r. length (parameter r.id r.value)) rs
unfolding parameters total
length-parameters [] = refl
length-parameters (r ∷ rs) = omega (arith, length-append (parameter r.id r.value) (parameters rs), length-parameters rs)

pub length-resolved : (ps : List Parameter) (scid tape : List ℕ) (at : ℕ) → length (resolved ps scid tape at) ≡ length ps
unfolding resolved
length-resolved [] scid tape at = refl
length-resolved (p ∷ ps) scid tape at = ap suc (length-resolved ps scid tape (at + parameter_draws p))

pub after-parameters : (ps : List Parameter) (at : ℕ) → after_parameters ps at ≡ at + total parameter_draws ps
unfolding after_parameters total
after-parameters [] at = omega arith
after-parameters (p ∷ ps) at = omega (arith, after-parameters ps (at + parameter_draws p))

-- in profile order
total-resolved : (ps : List Parameter) (scid tape : List ℕ) (at : ℕ)
    → total (λ r. length (parameter r.id r.value)) (resolved ps scid tape at) ≡ total (parameter_length (length scid)) ps
unfolding resolved total
total-resolved [] scid tape at = refl
total-resolved (p ∷ ps) scid tape at = omega (arith, length-resolved-bytes p scid tape at, total-resolved ps scid tape (at + parameter_draws p))

-- in the order in which they are sent
pub length-sent : (ps : List Parameter) (scid tape : List ℕ) (at : ℕ)
    → length (parameters (sent_parameters ps scid tape at)) ≡ total (parameter_length (length scid)) ps
unfolding sent_parameters
length-sent ps scid tape at =
    length-parameters (sent_parameters ps scid tape at)
    ∙ sym (shuffle-permutes none (resolved ps scid tape at) tape (after_parameters ps at) (λ r. length (parameter r.id r.value)))
    ∙ total-resolved ps scid tape at

-- ---- the extension

pub length-ext-quic-tp : (ps : List Parameter) (scid tape : List ℕ) (at : ℕ)
    → length (ext_quic_tp ps scid tape at).bytes ≡ 4 + total (parameter_length (length scid)) ps
unfolding ext_quic_tp
length-ext-quic-tp ps scid tape at =
    length-extension 0x0039 (parameters (sent_parameters ps scid tape at)) ∙ ap (λ (n : ℕ). 4 + n) (length-sent ps scid tape at)

pub next-ext-quic-tp : (ps : List Parameter) (scid tape : List ℕ) (at : ℕ)
    → (ext_quic_tp ps scid tape at).next ≡ at + (total parameter_draws ps + 8 * (length ps - 1))
unfolding ext_quic_tp
next-ext-quic-tp ps scid tape at = omega (arith, after-parameters ps at)
