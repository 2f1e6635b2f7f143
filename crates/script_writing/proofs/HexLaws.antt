-- Bytes in hex: how long their text is, and it is read back as the bytes. Assumes nothing.
use Prim.Native.Nat.{ℕ, zero, suc, ◌+◌, ◌*◌, ◌/◌, ◌%◌, ◌<◌, zero-le, suc-le-suc}
use mathlib.Core.Path.{◌≡◌, refl, sym, ap, ap₂, ◌∙◌}
use mathlib.Core.Bool.{true}
use mathlib.Core.Logic.{⊎_elim}
use mathlib.Core.List.{List, [], ◌∷◌, ◌++◌}
use native.Mathlib.Nat.{not-suc-le-zero, le_of_suc-le-suc}
use native.Mathlib.Numerals.{add-one}
use native.Mathlib.Omega.{arith}
use lib.ListN.{length, take, get_or, length-append}
use borrow.Author.Tests.{lt-ltb, le-ltb}
use Rattle.wire.proofs.ListLaws.{lt-or-le}
use Rattle.script.specs.Scan.{all}
use Rattle.script.specs.Hex.{hex_digit, is_hex, hex_byte, pairs}
use Rattle.script.proofs.HexLaws.{digit-decimal, digit-lower, hex-is}
use Rattle.script_writing.specs.Hex.{hex_letter, hex_pair, hex_text}

-- ---- what is written

pub length-hex_pair : (b : ℕ) → length (hex_pair b) ≡ 2
unfolding hex_pair
length-hex_pair b = refl

pub length-hex_text : (s : List ℕ) → length (hex_text s) ≡ 2 * length s
unfolding hex_text
length-hex_text [] = refl
length-hex_text (b ∷ s) = rw (length-append, length-hex_pair, length-hex_text s) (omega arith)

hex_text-suc : (i : ℕ) (s : List ℕ) → i < length s → hex_text (take (suc i) s) ≡ hex_text (take i s) ++ hex_pair (get_or s i 0)
unfolding hex_text hex_pair
hex_text-suc i [] h = absurd (not-suc-le-zero h)
hex_text-suc zero (b ∷ s) h = refl
hex_text-suc (suc i) (b ∷ s) h = ap (λ (t : List ℕ). hex_pair b ++ t) (hex_text-suc i s (le_of_suc-le-suc h))

-- one byte more
pub hex_text-more : (i : ℕ) (s : List ℕ) → i < length s → hex_text (take (i + 1) s) ≡ hex_text (take i s) ++ hex_pair (get_or s i 0)
hex_text-more i s h = rw add-one (hex_text-suc i s h)

-- ---- what is written is read back

pub letter-digit : (v : ℕ) → v < 16 → hex_digit (hex_letter v) ≡ v
unfolding hex_letter
letter-digit v h =
    ⊎_elim
    (λ p. rw (lt-ltb v 10 p) (sym (digit-decimal (v + 48) (omega arith) (omega arith)) ∙ omega arith))
    (λ q. rw (le-ltb v 10 q) (sym (digit-lower (v + 87) (omega arith) (omega arith)) ∙ omega arith))
    (lt-or-le v 10)

pub pair-byte : (b : ℕ) → b < 256 → hex_byte (hex_letter (b / 16)) (hex_letter (b % 16)) ≡ b
unfolding hex_byte
pair-byte b h = rw (letter-digit (b / 16) (omega arith), letter-digit (b % 16) (omega arith)) (omega arith)

pub letter-hex : (v : ℕ) → v < 16 → is_hex (hex_letter v) ≡ true
letter-hex v h = hex-is (hex_letter v) (rw (letter-digit v h) h)

-- every element is a byte
abbrev pub Bytes : List ℕ → Type 0
Bytes s = (i : ℕ) → i < length s → get_or s i 0 < 256

later : (b : ℕ) (s : List ℕ) → Bytes (b ∷ s) → Bytes s
later b s f i h = f (suc i) (suc-le-suc h)

first : (b : ℕ) (s : List ℕ) → Bytes (b ∷ s) → b < 256
first b s f = f 0 (suc-le-suc zero-le)

-- the text of bytes is made of digits, and gives the bytes back
pub hex_text-hex : (s : List ℕ) → Bytes s → all is_hex (hex_text s) ≡ true
unfolding hex_text hex_pair
hex_text-hex [] f = refl
hex_text-hex (b ∷ s) f =
    let h : b < 256 = first b s f in
    rw (letter-hex (b / 16) (omega arith), letter-hex (b % 16) (omega arith)) (hex_text-hex s (later b s f))

pub pairs-hex_text : (s : List ℕ) → Bytes s → pairs (hex_text s) ≡ s
unfolding pairs hex_text hex_pair
pairs-hex_text [] f = refl
pairs-hex_text (b ∷ s) f = ap₂ (λ (x : ℕ) (t : List ℕ). x ∷ t) (pair-byte b (first b s f)) (pairs-hex_text s (later b s f))
