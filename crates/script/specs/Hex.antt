-- Bytes in hex, two digits a byte.
use Rattle.std.specs.Prelude.{ℕ, ◌+◌, ◌-◌, ◌*◌, Bool, cond, List, [], ◌∷◌, nat_lt, Option, Some, None}
use Rattle.script.specs.Scan.{among}

-- the value of a digit, "upper or lower case": `0` to `9`, `A` to `F`, `a` to `f`; 16 where the byte is none
unfoldable pub hex_digit : ℕ → ℕ
hex_digit b =
    cond (among 48 57 b) (b - 48)
    (cond (among 65 70 b) (b - 55)
    (cond (among 97 102 b) (b - 87)
    16))

unfoldable pub is_hex : ℕ → Bool
is_hex b = nat_lt (hex_digit b) 16

-- the value, where the byte is a digit
abbrev pub digit_of : ℕ → Option ℕ
digit_of b = cond (is_hex b) (Some (hex_digit b)) None

-- the byte that two digits write
unfoldable pub hex_byte : ℕ → ℕ → ℕ
hex_byte high low = hex_digit high * 16 + hex_digit low

-- the bytes that digits write, "two digits a byte"
unfoldable pub pairs : List ℕ → List ℕ
pairs [] = []
pairs (a ∷ []) = []
pairs (a ∷ b ∷ s) = hex_byte a b ∷ pairs s
