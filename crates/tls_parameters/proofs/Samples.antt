-- A closed input that tells the transport parameters from those of a maker that draws for them in the order sent. Assumes nothing.
use Prim.Native.Nat.{ℕ}
use mathlib.Core.Path.{◌≡◌, refl}
use mathlib.Core.List.{List, [], ◌∷◌, ◌++◌}
use lib.ListN.{replicate}
use Rattle.wire.specs.Numbers.{digits}
use Rattle.wire.specs.Sums.{swapped}
use Rattle.varint.specs.Varint.{first_above, class, form, shortest}
use Rattle.profiles.specs.Profile.{Parameter, version_info, grease}
use Rattle.profiles.specs.Sizes.{parameter_draws}
use Rattle.tape.specs.Tape.{rand_bytes, lowest_first, next_u64, remainders, swaps, shuffle, raised, grease_id, grease_byte, version_information}
use Rattle.tls_parameters.specs.Parameters.{resolve, resolved, after_parameters, sent_parameters, parameter, parameters}

-- version_information and GREASE
unfoldable pub two : List Parameter
two = version_info 0x11 ∷ grease ∷ []

-- a byte 20 in the first draw; the shuffle draws 0, which puts GREASE first
unfoldable pub tape : List ℕ
tape = 0x20 ∷ replicate 29 0x00

-- version_information, which is first in the profile, draws first: its first GREASE byte is 2a, and GREASE has the id of a zero draw
pub in-profile-order : parameters (sent_parameters two [] tape 0) ≡
    (0xe0 ∷ replicate 6 0x00 ++ (0x19 ∷ [])) ++ (0x06 ∷ replicate 6 0x00)
    ++ (0x11 ∷ 0x0c ∷ 0x00 ∷ 0x00 ∷ 0x00 ∷ 0x01 ∷ 0x2a ∷ 0x0a ∷ 0x0a ∷ 0x0a ∷ 0x00 ∷ 0x00 ∷ 0x00 ∷ 0x01 ∷ [])
unfolding
    two tape swapped digits first_above class form shortest parameter_draws rand_bytes lowest_first next_u64 remainders swaps shuffle raised grease_id grease_byte version_information resolve resolved after_parameters sent_parameters parameter parameters
in-profile-order = refl

-- the wrong maker shuffles by the same draws, and draws for the parameters as they then stand
unfoldable pub as_sent : List ℕ
as_sent = parameters (resolved (shuffle grease two tape (after_parameters two 0)) [] tape 0)

-- GREASE has the byte 20 in its draw
pub in-order-sent : as_sent ≡
    (0xe0 ∷ replicate 6 0x00 ++ (0x38 ∷ [])) ++ (0x06 ∷ replicate 6 0x00)
    ++ (0x11 ∷ 0x0c ∷ 0x00 ∷ 0x00 ∷ 0x00 ∷ 0x01 ∷ 0x0a ∷ 0x0a ∷ 0x0a ∷ 0x0a ∷ 0x00 ∷ 0x00 ∷ 0x00 ∷ 0x01 ∷ [])
unfolding
    as_sent two tape swapped digits first_above class form shortest parameter_draws rand_bytes lowest_first next_u64 remainders swaps shuffle raised grease_id grease_byte version_information resolve resolved after_parameters parameter parameters
in-order-sent = refl
