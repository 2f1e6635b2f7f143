-- The rows of the code's tables of structs: a profile's list, filled up to the room that a customer's list may have.
use Rattle.std.specs.Prelude.{ℕ, ◌-◌, List, ◌++◌, map, length, replicate}
use Rattle.profiles.specs.Profile as value
use Rattle.profiles.specs.Profile.{for_browser}
use Rattle.profiles.specs.declared.ExtType.{ExtType}
use Rattle.profiles.specs.declared.Group.{Group}

abbrev pub padded : {A : Type 0} → ℕ → A → List A → List A
padded m z l = l ++ replicate (m - length l) z

abbrev pub ext_type : ℕ → ExtType
ext_type t = record { 0 = t }

abbrev pub group : ℕ → Group
group g = record { 0 = g }

abbrev pub type_row : ℕ → List ExtType
type_row b = padded 16 (ext_type 0) (map ext_type (for_browser b).extensions_order)

abbrev pub group_row : ℕ → List Group
group_row b = padded 8 (group 0) (map group (for_browser b).supported_groups)

abbrev pub share_row : ℕ → List Group
share_row b = padded 4 (group 0) (map group (for_browser b).key_share_groups)

abbrev pub parameter_row : ℕ → List value.Parameter
parameter_row b = padded 16 (value.varint 0 0) (for_browser b).quic_tp
