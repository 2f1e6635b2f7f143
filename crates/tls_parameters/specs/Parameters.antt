-- `ext_quic_tp` of tls.rs: the transport parameters.
use Rattle.std.specs.Prelude.{ℕ, ◌+◌, List, [], ◌∷◌, ◌++◌, length}
use Rattle.varint.specs.Varint.{shortest}
use Rattle.profiles.specs.Profile.{Parameter, varint, bytes, version_info, scid_source, grease}
use Rattle.profiles.specs.Sizes.{parameter_draws}
use Rattle.tape.specs.Tape.{rand_bytes, next_u64, shuffle, after_shuffle, grease_id, version_information}
use Rattle.tape.specs.Part.{Part}
use Rattle.wire.specs.Vectors.{extension}

-- QUIC version 1 (RFC 9000), the only one that is asked for
abbrev pub version : ℕ
version = 1

-- a parameter with its value
pub record Resolved : Type 0 where
  pub id : ℕ
  pub value : List ℕ

unfoldable pub resolve : Parameter → List ℕ → List ℕ → ℕ → Resolved
resolve (varint i v) scid tape at = record { id = i; value = shortest v }
resolve (bytes i b) scid tape at = record { id = i; value = b }
resolve (version_info i) scid tape at = record { id = i; value = version_information version (next_u64 tape at) }
resolve (scid_source i) scid tape at = record { id = i; value = scid }
resolve grease scid tape at = record { id = grease_id (next_u64 tape at); value = rand_bytes 6 tape (at + 8) }

-- "the parameters draw in profile order"
unfoldable pub resolved : List Parameter → List ℕ → List ℕ → ℕ → List Resolved
resolved [] scid tape at = []
resolved (p ∷ ps) scid tape at = resolve p scid tape at ∷ resolved ps scid tape (at + parameter_draws p)

-- the place on the tape after their draws
unfoldable pub after_parameters : List Parameter → ℕ → ℕ
after_parameters [] at = at
after_parameters (p ∷ ps) at = after_parameters ps (at + parameter_draws p)

abbrev pub none : Resolved
none = record { id = 0; value = [] }

-- "and their own shuffle comes after"
unfoldable pub sent_parameters : List Parameter → List ℕ → List ℕ → ℕ → List Resolved
sent_parameters ps scid tape at = shuffle none (resolved ps scid tape at) tape (after_parameters ps at)

-- id, length and value, the numbers in shortest varints
unfoldable pub parameter : ℕ → List ℕ → List ℕ
parameter id value = shortest id ++ (shortest (length value) ++ value)

unfoldable pub parameters : List Resolved → List ℕ
parameters [] = []
parameters (r ∷ rs) = parameter r.id r.value ++ parameters rs

unfoldable pub ext_quic_tp : List Parameter → List ℕ → List ℕ → ℕ → Part
ext_quic_tp ps scid tape at = record {
  bytes = extension 0x0039 (parameters (sent_parameters ps scid tape at));
  next = after_shuffle (length ps) (after_parameters ps at);
}
