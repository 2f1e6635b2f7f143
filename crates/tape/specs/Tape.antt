-- Draws by place (document 01, "Profiles and maker"; `RngCore`, `rand_bytes`, `shuffle` and what follows them in tls.rs). The tape is
-- a list of bytes, and a draw says where on it it begins. Past the tape's end there are zeros: no call that question 8 lets through
-- gets there.
use Rattle.std.specs.Prelude.{ℕ, zero, suc, ◌+◌, ◌-◌, ◌*◌, ◌/◌, ◌%◌, ◌^◌, List, [], ◌∷◌, ◌++◌, length, get_or}
use Rattle.wire.specs.Numbers.{digits}
use Rattle.wire.specs.Sums.{swapped}

-- "`fill_bytes` takes the next n bytes"
unfoldable pub rand_bytes : ℕ → List ℕ → ℕ → List ℕ
rand_bytes zero tape at = []
rand_bytes (suc n) tape at = get_or tape at 0 ∷ rand_bytes n tape (at + 1)

-- the number that bytes write, lowest first
unfoldable pub lowest_first : List ℕ → ℕ
lowest_first [] = 0
lowest_first (b ∷ bs) = b + 256 * lowest_first bs

-- "`next_u64` the next 8, lowest first"
unfoldable pub next_u64 : List ℕ → ℕ → ℕ
next_u64 tape at = lowest_first (rand_bytes 8 tape at)

-- ---- "`shuffle` goes from i = last down to 1 and swaps places i and draw mod (i + 1)": the draws' remainders, then the swaps

-- draw mod (i + 1), for i, i - 1, .. 1
unfoldable pub remainders : ℕ → List ℕ → ℕ → List ℕ
remainders zero tape at = []
remainders (suc j) tape at = let i = suc j in next_u64 tape at % (i + 1) ∷ remainders j tape (at + 8)

-- places i and the first remainder are swapped, then i - 1 and the second, .. down to 1; d is any element
unfoldable pub swaps : {A : Type 0} → A → ℕ → List A → List ℕ → List A
swaps d zero l rs = l
swaps d (suc j) l [] = l
swaps d (suc j) l (r ∷ rs) = let i = suc j in swaps d j (swapped d l i r) rs

unfoldable pub shuffle : {A : Type 0} → A → List A → List ℕ → ℕ → List A
shuffle d l tape at = let last = length l - 1 in swaps d last l (remainders last tape at)

-- the place on the tape after the shuffle of n things
abbrev pub after_shuffle : ℕ → ℕ → ℕ
after_shuffle n at = at + 8 * (n - 1)

-- ---- What single draws give

-- `grease_tp_id`: "2^61 plus the draw's low 58 bits, raised by 0 to 30 until it is 27 mod 31"
unfoldable pub raised : ℕ → ℕ
raised x = x + (27 + 31 - x % 31) % 31

unfoldable pub grease_id : ℕ → ℕ
grease_id draw = raised (2 ^ 61 + draw % 2 ^ 58)

-- "P = 150 + (draw mod 51) the ECH payload's" length
unfoldable pub payload_length : ℕ → ℕ
payload_length draw = 150 + draw % 51

-- a byte "with its high half kept and its low half 0xa"
unfoldable pub grease_byte : ℕ → ℕ
grease_byte b = b / 16 % 16 * 16 + 0xa

-- `version_information`: the chosen version, "four GREASE bytes from one draw, lowest byte first", and that version among those available
unfoldable pub version_information : ℕ → ℕ → List ℕ
version_information version draw =
    digits 256 4 version
    ++ ((grease_byte draw ∷ grease_byte (draw / 256) ∷ grease_byte (draw / 65536) ∷ grease_byte (draw / 16777216) ∷ []) ++ digits 256 4 version)
