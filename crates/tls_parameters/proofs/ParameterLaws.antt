-- One parameter: its bytes while they are written, and the values that are parts of a table or of the tape. Assumes nothing.
use Prim.Native.Nat.{ℕ, ◌+◌, ◌-◌, ◌*◌, ◌%◌, ◌≤◌, ◌<◌}
use mathlib.Core.Path.{◌≡◌, sym}
use mathlib.Core.List.{List, [], ◌∷◌, ◌++◌, append-nil}
use native.Mathlib.Omega.{arith}
use borrow.Author.Tests.{lt-ltb}
use lib.ListN.{length, take, drop}
use Rattle.wire.specs.Numbers.{digits}
use Rattle.wire.specs.Front.{Put}
use Rattle.wire.proofs.Writing.{Writing, lent_from, back_from, first-written, rest-is, writes, finished}
use Rattle.varint.specs.Varint.{width, first_above, class, form, shortest}
use Rattle.tape.specs.Tape.{rand_bytes}
use Rattle.tape.proofs.DrawLaws.{rand_bytes-part}
use Rattle.tls_parameters.specs.Parameters.{parameter}
use Rattle.tls_parameters.proofs.LengthLaws.{length-parameter}

-- the output while a parameter is written: the id, then the length of the value and the value, each to the part after the last
module _ (id : ℕ) (value old : List ℕ) (h : length (parameter id value) ≤ length old) where
  pub id-room : width (class id) ≤ length old
  id-room = omega (arith, length-parameter id value)

  module _ {a : ℕ} {p : List ℕ} (x : Put (shortest id) a old p) where
    pub id-written : Writing (parameter id value) (shortest (length value) ++ (value ++ [])) old p a
    unfolding parameter
    id-written = rest-is (first-written (shortest id) (shortest (length value) ++ value) h x) (rw append-nil)

    module _ {b : ℕ} {q : List ℕ} (y : Put (shortest (length value)) b (lent_from a p) q) where
      pub length-written : Writing (parameter id value) (value ++ []) old (back_from a p q) (a + b)
      length-written = writes (shortest (length value)) (value ++ []) id-written y

      pub value_written : {n : ℕ} {r : List ℕ} → Put value n (lent_from (a + b) (back_from a p q)) r
          → Put (parameter id value) (a + b + n) old (back_from (a + b) (back_from a p q) r)
      value_written z = finished (writes value [] length-written z)

-- a length below 64 is one byte
pub one_byte : (n : ℕ) → n < 64 → shortest n ≡ n ∷ []
unfolding shortest form class first_above digits
one_byte n h =
    let low : (0 * 64 + n) % 256 ≡ n = omega arith in
    rw (lt-ltb n 64 h, low)

-- ---- values

-- a value is shorter than its parameter
pub value-small : (id : ℕ) (value : List ℕ) → length (parameter id value) < 65536 → length value < 65536
value-small id value h = omega (arith, h, length-parameter id value)

-- the 6 bytes after a draw, as the code takes them
pub six-bytes : (tape : List ℕ) (at : ℕ) → at + 14 ≤ length tape → take (at + 14 - (at + 8)) (drop (at + 8) tape) ≡ rand_bytes 6 tape (at + 8)
six-bytes tape at h = let e : at + 14 - (at + 8) ≡ 6 = omega arith in rw e (sym (rand_bytes-part 6 tape (at + 8) (omega arith)))
