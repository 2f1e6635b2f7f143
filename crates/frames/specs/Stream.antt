-- The stream that pieces make, whatever their order (RFC 9000, section 2.2).
use Rattle.std.specs.Prelude.{ℕ, zero, suc, ◌-◌, max, Bool, true, false, cond, not, ◌&&◌, ◌||◌, List, [], ◌∷◌, length, get_or, eqb, leb, ltb}
use Rattle.frames.specs.Frame.{Piece, end}

-- whether a piece has a byte for a place, and the byte
unfoldable pub has : Piece → ℕ → Bool
has p i = leb p.offset i && ltb i (end p)

unfoldable pub byte_at : Piece → ℕ → ℕ
byte_at p i = get_or p.bytes (i - p.offset) 0

-- the same for pieces placed one after the other, the last one first
unfoldable pub filled : List Piece → ℕ → Bool
filled [] i = false
filled (p ∷ ps) i = has p i || filled ps i

unfoldable pub held : List Piece → ℕ → ℕ
held [] i = 0
held (p ∷ ps) i = cond (has p i) (byte_at p i) (held ps i)

-- "The end is the largest offset + length, 0 with no CRYPTO frame."
unfoldable pub end_of : List Piece → ℕ
end_of [] = 0
end_of (p ∷ ps) = max (end p) (end_of ps)

-- whether a test holds at n places from a place on; and what a function gives there
unfoldable pub each : (ℕ → Bool) → ℕ → ℕ → Bool
each q at zero = true
each q at (suc n) = q at && each q (suc at) n

unfoldable pub values : (ℕ → ℕ) → ℕ → ℕ → List ℕ
values f at zero = []
values f at (suc n) = f at ∷ values f (suc at) n

-- whether the bytes of a piece agree with those already placed
unfoldable pub agrees : List Piece → Piece → Bool
agrees ps p = each (λ i. not (filled ps i) || eqb (held ps i) (byte_at p i)) p.offset (length p.bytes)

-- whether each place below the end is filled
unfoldable pub gapless : List Piece → Bool
gapless ps = each (filled ps) 0 (end_of ps)

unfoldable pub stream : List Piece → List ℕ
stream ps = values (held ps) 0 (end_of ps)
