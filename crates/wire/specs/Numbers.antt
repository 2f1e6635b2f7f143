-- Numbers written digit by digit, the highest digit first. Bytes are the digits of base 256.
use Rattle.std.specs.Prelude.{ℕ, zero, suc, ◌+◌, ◌*◌, ◌/◌, ◌%◌, ◌<◌, List, [], ◌∷◌, ◌++◌, get_or}

-- a list of bytes
abbrev pub Bytes : List ℕ → Type 0
Bytes bs = (i : ℕ) → get_or bs i 0 < 256

-- the n low digits of v in base b
unfoldable pub digits : ℕ → ℕ → ℕ → List ℕ
digits b zero v = []
digits b (suc n) v = digits b n (v / b) ++ (v % b ∷ [])

-- the number that the digits of a, and then these, write in base b
unfoldable pub number_on : ℕ → ℕ → List ℕ → ℕ
number_on b a [] = a
number_on b a (d ∷ ds) = number_on b (a * b + d) ds

unfoldable pub number : ℕ → List ℕ → ℕ
number b ds = number_on b 0 ds
