-- A registry: numbers, and a text with a word for each of them, in the same order.
use Rattle.std.specs.Prelude.{ℕ, ◌-◌, Bool, true, cond, ◌&&◌, List, [], ◌∷◌, ◌++◌, length, ltb}
use Prim.Native.String.{String}
use Rattle.script.specs.Scan.{text, distance}
use Rattle.script.specs.Words.{word_of, word_text, has_operands}

unfoldable pub texts : List String → List ℕ
texts [] = []
texts (s ∷ ss) = text s ++ texts ss

-- the word of a text that has k words before it
unfoldable pub word : List ℕ → ℕ → List ℕ
word names k = word_text names (word_of names k)

-- the place of a number in a table; the table's length where it is not there
unfoldable pub place_of : ℕ → List ℕ → ℕ
place_of v numbers = distance v numbers

-- the word for a number that has no name: 1 where it is one of those that are kept free (RFC 8701; RFC 9000, section 18.1)
unfoldable pub spare_words : List ℕ
spare_words = text "unknown GREASE"

-- the name of a number, or the spare word
unfoldable pub name_in : List ℕ → List ℕ → ℕ → ℕ → List ℕ
name_in numbers names spare v = cond (ltb (place_of v numbers) (length numbers)) (word names (place_of v numbers)) (word spare_words spare)

-- ---- What is asked of each table: its numbers rise, so that none has two names

unfoldable pub rises : List ℕ → Bool
rises [] = true
rises (n ∷ []) = true
rises (n ∷ m ∷ ns) = ltb n m && rises (m ∷ ns)

-- and its text has just as many words
unfoldable pub is_table : List ℕ → List ℕ → Bool
is_table numbers names = rises numbers && has_operands names (length numbers - 1)
