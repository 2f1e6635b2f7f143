-- Whole lists of frames: what it is that they agree with a byte string and cover it, and which byte strings a person would accept. Nothing
-- here speaks of the order of the frames.
use Rattle.std.specs.Prelude.{ℕ, ◌+◌, ◌-◌, ◌≤◌, ◌<◌, ◌≡◌, ◌⊎◌, List, [], ◌∷◌, ◌++◌, length, get_or, replicate}
use Rattle.wire.specs.Answer.{result}
use Rattle.frames.specs.Frame.{Piece, end, Frame, encode_all, AllWhole, pieces}
use Rattle.frames.specs.Stream.{byte_at, end_of}
use Rattle.frames.specs.Join.{limit, join, join_of, out_after, marks_after}

-- place i lies in a piece
abbrev pub LiesIn : ℕ → Piece → Type 0
LiesIn i p = (p.offset ≤ i) × (i < end p)

abbrev pub Among : Piece → List Piece → Type 0
Among p [] = ⊥
Among p (q ∷ qs) = (p ≡ q) ⊎ Among p qs

-- a piece of the list that has the place
pub record Covered (ps : List Piece) (i : ℕ) : Type 0 where
  pub by : Piece
  pub among : Among by ps
  pub lies : LiesIn i by

-- each piece of the first list is among the second
abbrev pub Within : List Piece → List Piece → Type 0
Within ps qs = (p : Piece) → Among p ps → Among p qs

-- ---- The third demand's words

-- "A CRYPTO frame agrees with a hello when each data byte equals the hello's byte at offset plus the byte's place in the data, from 0";
-- and it ends within it
pub record PartOf (hello : List ℕ) (p : Piece) : Type 0 where
  pub within : end p ≤ length hello
  pub agrees : (j : ℕ) → j < length p.bytes → get_or p.bytes j 0 ≡ get_or hello (p.offset + j) 0

-- "Frames cover a hello when each of its places lies in one of them."
abbrev pub Covers : List Piece → List ℕ → Type 0
Covers ps hello = (i : ℕ) → i < length hello → Covered ps i

pub record Carry (fs : List Frame) (hello : List ℕ) : Type 0 where
  pub whole : AllWhole fs
  pub parts : (p : Piece) → Among p (pieces fs) → PartOf hello p
  pub covers : Covers (pieces fs) hello

-- ---- What is accepted

-- the encoding of whole frames, each ending at 16,384 or before, any two of which agree wherever both have a byte, and which together
-- leave no place below the largest end empty
pub record Acceptable (bs : List ℕ) : Type 0 where
  pub frames : List Frame
  pub bytes : bs ≡ encode_all frames
  pub whole : AllWhole frames
  pub ends : (p : Piece) → Among p (pieces frames) → end p ≤ limit
  pub agree : (p q : Piece) → Among p (pieces frames) → Among q (pieces frames) → (i : ℕ) → LiesIn i p → LiesIn i q → byte_at p i ≡ byte_at q i
  pub gapless : (i : ℕ) → i < end_of (pieces frames) → Covered (pieces frames) i

-- what the joiner accepts, by questions 11 to 15
pub record Accepted (bs : List ℕ) : Type 0 where
  pub stream : List ℕ
  pub is : join bs ≡ result stream

-- ---- What comes of it

-- a stream that ends where the pieces do and has the byte of any piece at each of its places
pub record StreamOf (ps : List Piece) (s : List ℕ) : Type 0 where
  pub long : length s ≡ end_of ps
  pub byte : (p : Piece) → Among p ps → (i : ℕ) → LiesIn i p → get_or s i 0 ≡ byte_at p i

-- what stands in the buffers once bytes are joined, whatever stood there before
pub record JoinedExactly (bs s out marks : List ℕ) : Type 0 where
  pub is : join_of bs out marks ≡ result (length s)
  pub output : out_after bs out marks ≡ s ++ replicate (length out - length s) 0
  pub marked : marks_after bs out marks ≡ replicate (length s) 1 ++ replicate (length marks - length s) 0
