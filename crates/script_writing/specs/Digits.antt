-- How many digits a number has, in any base.
use Rattle.std.specs.Prelude.{ℕ, zero, suc, ◌/◌, cond, ltb}

-- how many digits a number has that has at most n; 0 has one
unfoldable pub places : ℕ → ℕ → ℕ → ℕ
places base zero v = 0
places base (suc n) v = cond (ltb v base) 1 (suc (places base n (v / base)))
