-- Tests and searches on bytes.
use Rattle.std.specs.Prelude.{◌≡◌, ℕ, suc, ◌+◌, ◌-◌, ◌≤◌, Bool, false, cond, ◌&&◌, List, [], ◌∷◌, length, drop, ◌==◌, nat_le, nat_lt, Option, Some, None}
use Rattle.std.specs.List.{list_all}
use Prim.Native.Char.{code}
use Prim.Native.String as native
use Prim.Native.String.{String}

-- the bytes of a text
abbrev pub text : String → List ℕ
text native.[] = []
text (native.◌∷◌ c s) = code c ∷ text s

-- the bytes that a script gives a meaning to: the space, `"`, `*`, `+`, `-`, `@` and `_`
abbrev pub space : ℕ
space = 32

abbrev pub quote : ℕ
quote = 34

abbrev pub star : ℕ
star = 42

abbrev pub plus : ℕ
plus = 43

abbrev pub dash : ℕ
dash = 45

abbrev pub at : ℕ
at = 64

abbrev pub underscore : ℕ
underscore = 95

-- from the lowest to the highest, both included
abbrev pub among : ℕ → ℕ → ℕ → Bool
among low high b = nat_le low b && nat_le b high

-- whether a test holds of every element
abbrev pub all : (ℕ → Bool) → List ℕ → Bool
all q s = list_all q s

-- whether a text is this one byte
unfoldable pub is_only : ℕ → List ℕ → Bool
is_only b [] = false
is_only b (x ∷ []) = x == b
is_only b (x ∷ y ∷ xs) = false

-- whether a text begins with this byte
unfoldable pub begins : ℕ → List ℕ → Bool
begins b [] = false
begins b (x ∷ xs) = x == b

-- how many elements stand before the first that equals b: all of them where none does
unfoldable pub distance : ℕ → List ℕ → ℕ
distance b [] = 0
distance b (x ∷ xs) = cond (x == b) 0 (suc (distance b xs))

-- the place of the first b at or after a place
unfoldable pub find_of : List ℕ → ℕ → ℕ → ℕ
find_of s from b = from + distance b (drop from s)

-- the same, where there is one
abbrev pub found_of : List ℕ → ℕ → ℕ → Option ℕ
found_of s from b = cond (nat_lt (find_of s from b) (length s)) (Some (find_of s from b)) None

-- what a search promises: its answer, which lies at or after the place and within the list (at the place itself past the end)
pub record Found (place : ℕ) (s : List ℕ) (from r : ℕ) : Type 0 where
  pub is : r ≡ place
  pub least : from ≤ r
  pub most : r - from ≤ length s - from
