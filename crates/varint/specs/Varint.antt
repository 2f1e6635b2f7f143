-- Variable-length integers (RFC 9000, section 16; document 01, "Varints" and questions 1 to 3).
use Rattle.std.specs.Prelude.{ℕ, suc, ◌+◌, ◌*◌, ◌/◌, ◌%◌, ◌^◌, ◌≤◌, ◌<◌, ◌≡◌, cond, List, [], ◌∷◌, length, get_or, take, ltb, leb, Result, IfOk}
use Rattle.wire.specs.Answer.{Answer, result, told, ask, unless_refused}
use Rattle.wire.specs.Refusals.{answer_of, told_of}
use Rattle.wire.specs.declared.refusals.Refusal.{Refusal}
use Rattle.wire.specs.Numbers.{digits, number}
use Rattle.wire.specs.Front.{front}
use Rattle.varint.specs.declared.Varint.{Varint}

-- ---- The table: the widths in bytes, and the first number that each is too narrow for. A class is a place in it.

abbrev pub widths : List ℕ
widths = 1 ∷ 2 ∷ 4 ∷ 8 ∷ []

abbrev pub ceilings : List ℕ
ceilings = 2 ^ 6 ∷ 2 ^ 14 ∷ 2 ^ 30 ∷ 2 ^ 62 ∷ []

abbrev pub width : ℕ → ℕ
width c = get_or widths c 0

abbrev pub ceiling : ℕ → ℕ
ceiling c = get_or ceilings c 0

-- the place of the first ceiling above a value; where there is none, their count
unfoldable pub first_above : List ℕ → ℕ → ℕ
first_above [] v = 0
first_above (c ∷ cs) v = cond (ltb v c) 0 (suc (first_above cs v))

-- the class of the shortest width that holds a value
unfoldable pub class : ℕ → ℕ
class v = first_above ceilings v

-- ---- "The top two bits of the first byte give 1, 2, 4 or 8 bytes; the rest is the value, highest byte first."

-- a value in the width of class c: the class in the top two bits, the value below them
unfoldable pub form : ℕ → ℕ → List ℕ
form c v = digits 256 (width c) (c * ceiling c + v)

-- a width of 1, 2, 4 or 8 bytes that holds a number
pub record Holds (class value : ℕ) : Type 0 where
  pub known : class < 4
  pub below : value < ceiling class

-- "`size` and `write` use the shortest width."
unfoldable pub shortest : ℕ → List ℕ
shortest v = form (class v) v

-- the top two bits of the first byte
unfoldable pub class_at : List ℕ → ℕ
class_at s = get_or s 0 0 / 64

-- ---- Questions 1 to 3

-- Size: value below 2^62? 1
unfoldable pub size_of : ℕ → Answer ℕ
size_of v = ask (ltb v (2 ^ 62)) 1 (result (width (class v)))

-- Write: value below 2^62? 1 Does the output hold it? 2
unfoldable pub write_of : ℕ → ℕ → Answer ℕ
write_of v room = ask (ltb v (2 ^ 62)) 1 (ask (leb (width (class v)) room) 2 (result (width (class v))))

-- "A write fills the front of the output and gives the width; later bytes stay." A refusal leaves all of it.
unfoldable pub after_write : ℕ → List ℕ → List ℕ
after_write v out = unless_refused (write_of v (length out)) (λ w. front (shortest v) out) out

-- Read: are all its bytes there? 3 Where there are none, the first is missing: class 0 asks for one byte.
-- "A longer form is read as readily. A read gives value and width."
unfoldable pub read_of : List ℕ → Answer Varint
read_of s =
    let c = class_at s in
    ask (leb (width c) (length s)) 3 (result (record { value = number 256 (take (width c) s) % ceiling c; width = width c }))

-- "A refusal carries its number, zero counts", so its value and its width are 0
abbrev pub no_varint : Varint
no_varint = record { value = 0; width = 0 }

-- ---- The promises: first the meaning, as an answer and in numbers, then the bounds that a caller needs

abbrev pub WidthBounds : Result ℕ Refusal → Type 0
WidthBounds r = IfOk r (λ w. (1 ≤ w) × (w ≤ 8))

pub record Sized (v : ℕ) (r : Result ℕ Refusal) : Type 0 where
  pub is : answer_of r ≡ size_of v
  pub tells : told_of 0 r ≡ told 0 (size_of v)
  pub bounds : WidthBounds r

pub record Written (v : ℕ) (old : List ℕ) (r : Result ℕ Refusal) (new : List ℕ) : Type 0 where
  pub is : answer_of r ≡ write_of v (length old)
  pub tells : told_of 0 r ≡ told 0 (write_of v (length old))
  pub output : new ≡ after_write v old
  pub bounds : WidthBounds r

abbrev pub VarintBounds : ℕ → Result Varint Refusal → Type 0
VarintBounds n r = IfOk r (λ x. (1 ≤ x.width) × (x.width ≤ n) × (x.value < 2 ^ 62))

pub record Found (s : List ℕ) (r : Result Varint Refusal) : Type 0 where
  pub is : answer_of r ≡ read_of s
  pub tells : told_of no_varint r ≡ told no_varint (read_of s)
  pub bounds : VarintBounds (length s) r
