-- Closed inputs, each of which rules out a wrong program; must-fail/ has an edit more for each call. Assumes nothing.
use Prim.Native.Nat.{◌^◌}
use mathlib.Core.Path.{◌≡◌, refl}
use mathlib.Core.List.{[], ◌∷◌}
use Rattle.wire.specs.Answer.{result, refused, told}
use Rattle.wire.specs.Numbers.{digits, number_on, number}
use Rattle.wire.specs.Front.{front}
use Rattle.varint.specs.Varint.{first_above, class, form, shortest, class_at, size_of, write_of, after_write, read_of, no_varint}

-- a size that refuses with 2, the number of write's output
pub size_number : size_of (2 ^ 62) ≡ refused 1
unfolding size_of
size_number = refl

-- a write that says in the two top bits that four bytes are eight: it writes c0004000
pub write-four : after_write (2 ^ 14) (0xff ∷ 0xff ∷ 0xff ∷ 0xff ∷ 0xff ∷ []) ≡ 0x80 ∷ 0x00 ∷ 0x40 ∷ 0x00 ∷ 0xff ∷ []
unfolding digits front first_above class form shortest write_of after_write
write-four = refl

-- a read that gives the value of two bytes and the width of four
pub read-two : read_of (0x40 ∷ 0x25 ∷ 0xff ∷ 0xff ∷ []) ≡ result (record { value = 37; width = 2 })
unfolding number_on number class_at read_of
read-two = refl

-- ---- Refusals in numbers: zeros beside the number

pub size-told : told 0 (size_of (2 ^ 62)) ≡ record { number = 1; values = 0 }
unfolding size_of
size-told = refl

-- 0, and not the width that there is no room for
pub write-told : told 0 (write_of 64 1) ≡ record { number = 2; values = 0 }
unfolding first_above class write_of
write-told = refl

pub read_told : told no_varint (read_of []) ≡ record { number = 3; values = record { value = 0; width = 0 } }
unfolding class_at read_of
read_told = refl

-- 0 and 0, and not the width that the first byte says
pub read-cut-told : told no_varint (read_of (0x40 ∷ [])) ≡ record { number = 3; values = record { value = 0; width = 0 } }
unfolding class_at read_of
read-cut-told = refl
