-- What the writers of parameters ask for and promise. Parameters are written in shuffled order, each with the draws at its own place.
use Rattle.std.specs.Prelude.{ℕ, ◌+◌, ◌≤◌, ◌<◌, ◌^◌, List, [], ◌∷◌, map, length, get_or, All}
use Rattle.profiles.specs.Profile.{Parameter, varint, bytes, version_info, scid_source, grease}
use Rattle.profiles.specs.Sizes.{parameter_draws}
use Rattle.profiles.specs.Code.{parameter_of}
use Rattle.profiles.specs.declared.TpEntry.{TpEntry}
use Rattle.tls_parameters.specs.Parameters.{Resolved, resolve, parameter, parameters}
use Rattle.tls_parameters.specs.declared.Placed.{Placed}

-- a parameter's bytes, with its draws at a place
abbrev pub resolved_bytes : Parameter → List ℕ → List ℕ → ℕ → List ℕ
resolved_bytes p scid tape at = parameter (resolve p scid tape at).id (resolve p scid tape at).value

-- ids and numbers that have a varint
abbrev pub HasVarints : Parameter → Type 0
HasVarints (varint i v) = (i < 2 ^ 62) × (v < 2 ^ 62)
HasVarints (bytes i b) = i < 2 ^ 62
HasVarints (version_info i) = i < 2 ^ 62
HasVarints (scid_source i) = i < 2 ^ 62
HasVarints grease = Unit {0}

abbrev pub AllVarints : List Parameter → Type 0
AllVarints ps = (j : ℕ) → j < length ps → HasVarints (get_or ps j grease)

-- each parameter with the place of its draws, which begin after those of the parameters before it
unfoldable pub placed_at : List TpEntry → ℕ → List Placed
placed_at [] at = []
placed_at (p ∷ ps) at = record { parameter = p; at = at } ∷ placed_at ps (at + parameter_draws (parameter_of p))

-- the parameters with their values, in the order given
abbrev pub resolve_placed : List ℕ → List ℕ → Placed → Resolved
resolve_placed scid tape q = resolve (parameter_of q.parameter) scid tape q.at

abbrev pub sent_of : List Placed → List ℕ → List ℕ → List Resolved
sent_of placed scid tape = map (resolve_placed scid tape) placed

pub record ParameterRoom (p : Parameter) (scid tape : List ℕ) (at room : ℕ) : Type 0 where
  pub varints : HasVarints p
  pub fits : length (resolved_bytes p scid tape at) ≤ room
  pub small : length (resolved_bytes p scid tape at) < 65536
  pub there : at + parameter_draws p ≤ length tape

-- parameters whose ids and numbers have varints, and whose draws are on the tape
abbrev pub Placeable : List ℕ → Placed → Type 0
Placeable tape q = HasVarints (parameter_of q.parameter) × (q.at + parameter_draws (parameter_of q.parameter) ≤ length tape)

pub record ParametersRoom (placed : List Placed) (scid tape : List ℕ) (room : ℕ) : Type 0 where
  pub each : All (Placeable tape) placed
  pub fits : length (parameters (sent_of placed scid tape)) ≤ room
  pub small : length (parameters (sent_of placed scid tape)) < 65536
