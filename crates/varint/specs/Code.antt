-- What the private functions promise each other.
use Rattle.std.specs.Prelude.{ℕ, Option, Some, None}
use Rattle.varint.specs.declared.Class.{Class}
use Rattle.varint.specs.declared.Class.TheVariants as class

-- the place of a width in the tables; their count where there is none
abbrev pub place : Class → ℕ
place class.One = 0
place class.Two = 1
place class.Four = 2
place class.Eight = 3

abbrev pub place_of : Option Class → ℕ
place_of (Some c) = place c
place_of None = 4
