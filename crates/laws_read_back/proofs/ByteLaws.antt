-- Lists of bytes: what is joined, written or drawn of bytes is bytes. Assumes nothing.
use Prim.Native.Nat.{ℕ, zero, suc, ◌+◌, ◌*◌, ◌/◌, ◌%◌, ◌<◌}
use mathlib.Core.List.{List, [], ◌∷◌, ◌++◌, map}
use native.Mathlib.Omega.{arith}
use lib.ListN.{length, get_or}
use Rattle.wire.specs.Numbers.{Bytes, digits}
use Rattle.wire.specs.Vectors.{vector, words, extension}
use Rattle.varint.specs.Varint.{width, ceiling, class, form, shortest}
use Rattle.tape.specs.Tape.{rand_bytes, grease_byte, version_information}

pub bytes-nil : Bytes []
bytes-nil i = omega arith

pub bytes-cons : (x : ℕ) (s : List ℕ) → x < 256 → Bytes s → Bytes (x ∷ s)
bytes-cons x s h b zero = h
bytes-cons x s h b (suc i) = b i

pub bytes-append : (s t : List ℕ) → Bytes s → Bytes t → Bytes (s ++ t)
bytes-append [] t a b i = b i
bytes-append (x ∷ s) t a b zero = a 0
bytes-append (x ∷ s) t a b (suc i) = bytes-append s t (λ j. a (suc j)) b i

pub bytes-digits : (n v : ℕ) → Bytes (digits 256 n v)
unfolding digits
bytes-digits zero v = bytes-nil
bytes-digits (suc n) v = bytes-append (digits 256 n (v / 256)) (v % 256 ∷ []) (bytes-digits n (v / 256)) (bytes-cons (v % 256) [] (omega arith) bytes-nil)

pub bytes-vector : (n : ℕ) (s : List ℕ) → Bytes s → Bytes (vector n s)
unfolding vector
bytes-vector n s b = bytes-append (digits 256 n (length s)) s (bytes-digits n (length s)) b

pub bytes-words : (vs : List ℕ) → Bytes (words vs)
unfolding words
bytes-words [] = bytes-nil
bytes-words (v ∷ vs) = bytes-append (digits 256 2 v) (words vs) (bytes-digits 2 v) (bytes-words vs)

pub bytes-extension : (t : ℕ) (s : List ℕ) → Bytes s → Bytes (extension t s)
unfolding extension
bytes-extension t s b = bytes-append (digits 256 2 t) (vector 2 s) (bytes-digits 2 t) (bytes-vector 2 s b)

pub bytes-shortest : (v : ℕ) → Bytes (shortest v)
unfolding shortest form
bytes-shortest v = bytes-digits (width (class v)) (class v * ceiling (class v) + v)

-- ---- draws

pub bytes-drawn : (n : ℕ) (tape : List ℕ) (at : ℕ) → Bytes tape → Bytes (rand_bytes n tape at)
unfolding rand_bytes
bytes-drawn zero tape at b = bytes-nil
bytes-drawn (suc n) tape at b = bytes-cons (get_or tape at 0) (rand_bytes n tape (at + 1)) (b at) (bytes-drawn n tape (at + 1) b)

grease-byte : (b : ℕ) → grease_byte b < 256
unfolding grease_byte
grease-byte b = omega arith

grease-bytes : (bs : List ℕ) → Bytes (map grease_byte bs)
grease-bytes [] = bytes-nil
grease-bytes (b ∷ bs) = bytes-cons (grease_byte b) (map grease_byte bs) (grease-byte b) (grease-bytes bs)

pub bytes-version-information : (v draw : ℕ) → Bytes (version_information v draw)
unfolding version_information
bytes-version-information v draw =
    let parts : List ℕ = draw ∷ draw / 256 ∷ draw / 65536 ∷ draw / 16777216 ∷ [] in
    bytes-append (digits 256 4 v) (map grease_byte parts ++ digits 256 4 v) (bytes-digits 4 v)
    (bytes-append (map grease_byte parts) (digits 256 4 v) (grease-bytes parts) (bytes-digits 4 v))
