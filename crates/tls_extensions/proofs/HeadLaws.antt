-- What stands before the body of an extension, as the writers put it together. Assumes nothing.
use Prim.Native.Nat.{ℕ, ◌+◌, ◌<◌}
use mathlib.Core.Path.{◌≡◌, refl, sym}
use mathlib.Core.List.{List, [], ◌∷◌, ◌++◌, append_assoc}
use native.Mathlib.Nat.{mod-eq_of_lt}
use native.Mathlib.Omega.{arith}
use lib.ListN.{length, length-append}
use Rattle.wire.specs.Numbers.{digits}
use Rattle.wire.specs.Vectors.{vector, extension}
use Rattle.wire.specs.Front.{front, Put}
use Rattle.wire.proofs.NumberLaws.{length_digits}
use Rattle.wire.proofs.VectorLaws.{length-vector}
use Rattle.wire.proofs.Writing.{filled}

-- a length in one byte
pub one_byte : {n : ℕ} {old new : List ℕ} → n < 256 → new ≡ front (n ∷ []) old → Put (digits 256 1 n) 1 old new
unfolding digits
one_byte {n} h e = rw (mod-eq_of_lt h) (filled refl e)

pub length-head : (t n : ℕ) → length (digits 256 2 t ++ digits 256 2 n) ≡ 4
length-head t n = omega (arith, length-append (digits 256 2 t) (digits 256 2 n), length_digits 256 2 t, length_digits 256 2 n)

pub length-list-head : (t n : ℕ) → length ((digits 256 2 t ++ digits 256 2 (2 + n)) ++ digits 256 2 n) ≡ 6
length-list-head t n =
    omega (arith, length-append (digits 256 2 t ++ digits 256 2 (2 + n)) (digits 256 2 n), length-head t (2 + n), length_digits 256 2 n)

pub extension-is : (t : ℕ) (body : List ℕ) → (digits 256 2 t ++ digits 256 2 (length body)) ++ body ≡ extension t body
unfolding extension vector
extension-is t body = append_assoc (digits 256 2 t) (digits 256 2 (length body)) body

-- the body is a list of n bytes with its length before it, in so many bytes
pub list-extension-is : (width t n : ℕ) (bs : List ℕ) → length bs ≡ n
    → ((digits 256 2 t ++ digits 256 2 (width + n)) ++ digits 256 width n) ++ bs ≡ extension t (vector width bs)
unfolding vector
list-extension-is width t n bs e =
    let long : width + n ≡ length (vector width bs) = omega (arith, length-vector width bs) in
    let short : n ≡ length bs = sym e in
    rw (long, short, append_assoc (digits 256 2 t ++ digits 256 2 (length (vector width bs)))) (extension-is t (vector width bs))
