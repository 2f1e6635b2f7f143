-- What compare/ asks of the varints, as single 64-bit numbers.
use Rattle.std.specs.Prelude.{◌≡◌, ℕ, zero, suc, ◌+◌, ◌%◌, ◌^◌, ◌≤◌, List, length, drop, Option, MatchOption}
use Rattle.wire.specs.Answer.{Answer, result, refused, coded}
use Rattle.varint.specs.Varint.{write_of, after_write, read_of}
use Rattle.varint.specs.declared.Varint.{Varint}

-- the value that a read gives, which may be as large as 2^62 - 1, or 2^63 plus the number
abbrev pub coded_value : Answer Varint → ℕ
coded_value (result x) = x.value
coded_value (refused n) = 2 ^ 63 + n

-- the width that it gives, or 2^32 plus the number
abbrev pub coded_width : Answer Varint → ℕ
coded_width (result x) = x.width
coded_width (refused n) = 2 ^ 32 + n

-- the sum of what is read one after another, up to the end or the first refusal, modulo 2^64
abbrev pub on_read : (ℕ → ℕ → ℕ) → ℕ → Answer Varint → ℕ
on_read next sum (result x) = next x.width ((sum + x.value) % 2 ^ 64)
on_read next sum (refused n) = sum

unfoldable pub sum_from : ℕ → List ℕ → ℕ → ℕ
sum_from zero s sum = sum
sum_from (suc fuel) s sum = on_read (λ w t. sum_from fuel (drop w s) t) sum (read_of s)

unfoldable pub sum_of : List ℕ → ℕ
sum_of s = sum_from (length s) s 0

-- what a turn of the reads gives, and the bytes that are left after it
abbrev pub Reads : List ℕ → Option ℕ → List ℕ → Type 0
Reads s value t =
    MatchOption value ((n : ℕ) × (read_of s ≡ refused n))
    (λ v. (x : Varint) × (read_of s ≡ result x) × (1 ≤ x.width) × (x.width ≤ length s) × (v ≡ x.value) × (t ≡ drop x.width s))

-- what a write gives and leaves
pub record PutCoded (v : ℕ) (old : List ℕ) (r : ℕ) (new : List ℕ) : Type 0 where
  pub is : r ≡ coded (write_of v (length old))
  pub output : new ≡ after_write v old
