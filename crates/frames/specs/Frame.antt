-- Whole frames as values, and their bytes (RFC 9000, sections 19.1, 19.2 and 19.6; document 01, "Joining frames").
use Rattle.std.specs.Prelude.{ℕ, ◌+◌, List, [], ◌∷◌, ◌++◌, length}
use Rattle.varint.specs.Varint.{form, Holds}

-- data at an offset of the stream
pub record Piece : Type 0 where
  pub offset : ℕ
  pub bytes : List ℕ

-- "A frame ends at offset + length, with no data too."
abbrev pub end : Piece → ℕ
end p = p.offset + length p.bytes

-- CRYPTO has a piece, and the classes of the widths in which its offset and its length are written
pub data Frame : Type 0 where
  padding : Frame
  ping : Frame
  crypto : ℕ → ℕ → Piece → Frame

-- "Types, one byte each: 00 PADDING and 01 PING have no body; 06 CRYPTO has varint offset, varint length, data."
unfoldable pub encode : Frame → List ℕ
encode padding = 0 ∷ []
encode ping = 1 ∷ []
encode (crypto o l p) = 6 ∷ (form o p.offset ++ (form l (length p.bytes) ++ p.bytes))

unfoldable pub encode_all : List Frame → List ℕ
encode_all [] = []
encode_all (f ∷ fs) = encode f ++ encode_all fs

-- each number of a frame is written in a width that holds it
abbrev pub Whole : Frame → Type 0
Whole padding = Unit {0}
Whole ping = Unit {0}
Whole (crypto o l p) = Holds o p.offset × Holds l (length p.bytes)

abbrev pub AllWhole : List Frame → Type 0
AllWhole [] = Unit {0}
AllWhole (f ∷ fs) = Whole f × AllWhole fs

-- what the frames of a list have to place
unfoldable pub pieces : List Frame → List Piece
pieces [] = []
pieces (padding ∷ fs) = pieces fs
pieces (ping ∷ fs) = pieces fs
pieces (crypto o l p ∷ fs) = p ∷ pieces fs
