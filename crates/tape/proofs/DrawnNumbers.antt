-- What single draws give, for every draw: a reserved identifier from 2^61 on and below 2^62, and a payload of 150 to 200 bytes. Assumes nothing.
use mathlib.Core.Path.{◌≡◌}
use mathlib.Core.List.{[], ◌∷◌}
use Prim.Native.Nat.{ℕ, ◌+◌, ◌/◌, ◌%◌, ◌^◌, ◌≤◌, ◌<◌}
use native.Mathlib.Omega.{arith}
use Rattle.wire.specs.Numbers.{digits}
use Rattle.tape.specs.Tape.{raised, grease_id, payload_length, grease_byte}

-- a raise makes the remainder 27
pub raised-reserved : (x : ℕ) → raised x % 31 ≡ 27
unfolding raised
raised-reserved x = omega arith

pub raised_by : (x : ℕ) → (x ≤ raised x) × (raised x ≤ x + 30)
unfolding raised
raised_by x = (omega arith, omega arith)

-- no smaller raise would do
pub raised-least : (x y : ℕ) → x ≤ y → y % 31 ≡ 27 → raised x ≤ y
unfolding raised
raised-least x y h e = omega arith

pub grease-reserved : (r : ℕ) → grease_id r % 31 ≡ 27
unfolding grease_id
grease-reserved r = raised-reserved (2 ^ 61 + r % 2 ^ 58)

pub grease-least : (r : ℕ) → 2 ^ 61 ≤ grease_id r
unfolding grease_id
grease-least r = omega (arith, raised_by (2 ^ 61 + r % 2 ^ 58))

pub grease-below : (r : ℕ) → grease_id r < 2 ^ 62
unfolding grease_id
grease-below r = omega (arith, raised_by (2 ^ 61 + r % 2 ^ 58))

pub payload-least : (r : ℕ) → 150 ≤ payload_length r
unfolding payload_length
payload-least r = omega arith

pub payload-most : (r : ℕ) → payload_length r ≤ 200
unfolding payload_length
payload-most r = omega arith

-- a version in four bytes
pub four-digits : (v : ℕ) → v < 2 ^ 32 → digits 256 4 v ≡ v / 16777216 ∷ v / 65536 % 256 ∷ v / 256 % 256 ∷ v % 256 ∷ []
unfolding digits
four-digits v h =
    let a : v / 256 / 256 / 256 % 256 ≡ v / 16777216 = omega arith in
    let b : v / 256 / 256 % 256 ≡ v / 65536 % 256 = omega arith in
    rw (a, b)

-- of a number a byte keeps what a GREASE byte is made of
pub grease-byte-low : (x : ℕ) → grease_byte (x % 256) ≡ grease_byte x
unfolding grease_byte
grease-byte-low x = omega arith
