-- Vectors and lists of 16-bit numbers: their lengths, and the numbers from a place on. Assumes nothing.
use Prim.Native.Nat.{ℕ, ◌+◌, ◌*◌, ◌<◌}
use mathlib.Core.Path.{◌≡◌, ap, ◌∙◌}
use mathlib.Core.List.{List, [], ◌∷◌, ◌++◌, map}
use native.Mathlib.Numerals.{add-one}
use native.Mathlib.Omega.{arith}
use lib.ListN.{length, get_or, drop, length-append}
use lib.Seq.{drop-cons}
use Rattle.std.proofs.lemmas.List.{map-id}
use Rattle.wire.specs.Numbers.{digits}
use Rattle.wire.specs.Front.{Put}
use Rattle.wire.specs.Vectors.{vector, words}
use Rattle.wire.proofs.NumberLaws.{length_digits}

pub length-vector : (width : ℕ) (bs : List ℕ) → length (vector width bs) ≡ width + length bs
unfolding vector
length-vector width bs = length-append (digits 256 width (length bs)) bs ∙ ap (λ (n : ℕ). n + length bs) (length_digits 256 width (length bs))

pub length-words : (vs : List ℕ) → length (words vs) ≡ 2 * length vs
unfolding words
length-words [] = cc
length-words (v ∷ vs) = omega (arith, length-append (digits 256 2 v) (words vs), length_digits 256 2 v, length-words vs)

pub words-from : (vs : List ℕ) (i : ℕ) → i < length vs → words (drop i vs) ≡ digits 256 2 (get_or vs i 0) ++ words (drop (i + 1) vs)
unfolding words
words-from vs i h = rw (drop-cons vs i 0 h, add-one i) cc

-- numbers that stand for themselves, as `put_words` has them
pub plain_words : (vs : List ℕ) {old new : List ℕ} {n : ℕ} → Put (words (map (λ v. v) vs)) n old new → Put (words vs) n old new
plain_words vs p = rw map-id at p
