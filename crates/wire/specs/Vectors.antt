-- Lists as TLS writes them (RFC 8446, section 3.4): a vector is bytes with their count before them.
use Rattle.std.specs.Prelude.{ℕ, List, [], ◌∷◌, ◌++◌, length}
use Rattle.wire.specs.Numbers.{digits}

-- the count in so many bytes, and the bytes
unfoldable pub vector : ℕ → List ℕ → List ℕ
vector width bs = digits 256 width (length bs) ++ bs

-- 16-bit numbers, one after the other
unfoldable pub words : List ℕ → List ℕ
words [] = []
words (v ∷ vs) = digits 256 2 v ++ words vs

-- byte strings, each with its count in one byte
unfoldable pub protocols : List (List ℕ) → List ℕ
protocols [] = []
protocols (name ∷ names) = vector 1 name ++ protocols names

-- an extension: type, and the body with its length in two bytes
unfoldable pub extension : ℕ → List ℕ → List ℕ
extension t body = digits 256 2 t ++ vector 2 body
