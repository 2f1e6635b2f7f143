-- Numbers in decimal.
use Rattle.std.specs.Prelude.{ℕ, ◌-◌, ◌^◌, Bool, cond, ◌&&◌, List, [], ◌∷◌, map, nat_lt, Option, Some, None}
use Rattle.wire.specs.Numbers.{number}
use Rattle.script.specs.Scan.{among, all}

-- a decimal digit: `0` is 48, `9` is 57
unfoldable pub is_decimal : ℕ → Bool
is_decimal b = among 48 57 b

abbrev pub decimal_value : ℕ → ℕ
decimal_value b = b - 48

-- "A number is decimal and below 2^64": one digit or more
unfoldable pub number_of : List ℕ → Option ℕ
number_of [] = None
number_of (b ∷ s) =
    cond (all is_decimal (b ∷ s) && nat_lt (number 10 (map decimal_value (b ∷ s))) (2 ^ 64))
    (Some (number 10 (map decimal_value (b ∷ s))))
    None
