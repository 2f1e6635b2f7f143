-- What the private writers of the maker ask for.
use Rattle.std.specs.Prelude.{ℕ, ◌<◌, List, map, length}
use Rattle.wire.specs.Vectors.{vector}
use Rattle.profiles.specs.Profile as value
use Rattle.profiles.specs.Code.{type_number, profile_of, Sound}
use Rattle.profiles.specs.declared.ExtType.{ExtType}
use Rattle.profiles.specs.declared.Profile.{Profile}
use Rattle.tape.specs.Part.{Part, wrapped, Room}
use Rattle.tls.specs.Hello.{build_extension, build_extensions, block, body, hello}

-- a part of the hello: the profile is sound, name and connection id are short, and there is room for it
pub record PartRoom (p : Profile) (name scid tape : List ℕ) (a : Part) (room : ℕ) : Type 0 where
  pub sound : Sound p
  pub short_name : length name < 256
  pub short_id : length scid < 256
  pub has : Room a room (length tape)

-- one extension
abbrev pub ExtensionRoom : Profile → ℕ → List ℕ → List ℕ → List ℕ → ℕ → ℕ → Type 0
ExtensionRoom p t name scid tape at room = PartRoom p name scid tape (build_extension (profile_of p) name scid tape t at) room

-- extensions of these types, in this order
abbrev pub extensions_of : Profile → List ExtType → List ℕ → List ℕ → List ℕ → ℕ → Part
extensions_of p types name scid tape at = build_extensions (profile_of p) name scid tape (map type_number types) at

abbrev pub ExtensionsRoom : Profile → List ExtType → List ℕ → List ℕ → List ℕ → ℕ → ℕ → Type 0
ExtensionsRoom p types name scid tape at room = PartRoom p name scid tape (extensions_of p types name scid tape at) room

-- the block with its length before it
abbrev pub counted_block : value.Profile → List ℕ → List ℕ → List ℕ → Part
counted_block p name scid tape = wrapped (vector 2) (block p name scid tape)

abbrev pub BlockRoom : Profile → List ℕ → List ℕ → List ℕ → ℕ → Type 0
BlockRoom p name scid tape room = PartRoom p name scid tape (counted_block (profile_of p) name scid tape) room

abbrev pub BodyRoom : Profile → List ℕ → List ℕ → List ℕ → ℕ → Type 0
BodyRoom p name scid tape room = PartRoom p name scid tape (body (profile_of p) name scid tape) room

abbrev pub HelloRoom : Profile → List ℕ → List ℕ → List ℕ → ℕ → Type 0
HelloRoom p name scid tape room = PartRoom p name scid tape (hello (profile_of p) name scid tape) room
