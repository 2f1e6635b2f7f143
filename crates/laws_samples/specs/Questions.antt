-- Document 01, "Samples", those marked T: the questions that they ask, and the answers that 01 gives.
use Rattle.std.specs.Prelude.{ℕ, ◌+◌, ◌-◌, ◌^◌, List, [], ◌∷◌, replicate}
use Rattle.wire.specs.Answer.{Answer, result, refused}
use Rattle.varint.specs.Varint.{shortest, size_of, read_of}
use Rattle.varint.specs.declared.Varint.{Varint}
use Rattle.frames.specs.Join.{join}
use Rattle.tape.specs.Tape.{shuffle, grease_id, payload_length}

pub data Question : Type 0 where
  reading : List ℕ → Question
  width_of : ℕ → Question
  joining : List ℕ → Question
  -- the id of a draw, and that id as it is written
  grease-id : ℕ → Question
  grease-written : ℕ → Question
  payload-length : ℕ → Question
  -- a list, and the tape that its shuffle draws from
  shuffling : List ℕ → List ℕ → Question

-- what a sample gives: a number, bytes, or a list of numbers
pub data Value : Type 0 where
  number : ℕ → Value
  bytes : List ℕ → Value
  list : List ℕ → Value

-- the one number that a sample gives for a read: its value
abbrev pub read_value : Answer Varint → Answer Value
read_value (result x) = result (number x.value)
read_value (refused n) = refused n

abbrev pub size_value : Answer ℕ → Answer Value
size_value (result w) = result (number w)
size_value (refused n) = refused n

abbrev pub join_value : Answer (List ℕ) → Answer Value
join_value (result s) = result (bytes s)
join_value (refused n) = refused n

abbrev pub answer : Question → Answer Value
answer (reading s) = read_value (read_of s)
answer (width_of v) = size_value (size_of v)
answer (joining s) = join_value (join s)
answer (grease-id draw) = result (number (grease_id draw))
answer (grease-written draw) = result (bytes (shortest (grease_id draw)))
answer (payload-length draw) = result (number (payload_length draw))
answer (shuffling l tape) = result (list (shuffle 0 l tape 0))

abbrev pub questions : List Question
questions =
    -- "25 and 4025 read as 37; 7bbd as 15293; 9d7f3e7d as 494878333"
    reading (0x25 ∷ [])
    ∷ reading (0x40 ∷ 0x25 ∷ [])
    ∷ reading (0x7b ∷ 0xbd ∷ [])
    ∷ reading (0x9d ∷ 0x7f ∷ 0x3e ∷ 0x7d ∷ [])
    -- "63 has width 1, 64 width 2, 2^62 gives 1"
    ∷ width_of 63
    ∷ width_of 64
    ∷ width_of (2 ^ 62)
    -- "a zero draw gives the id 2^61 + 25, written e000000000000019; all ones gives 2^61 + 2^58 + 17"
    ∷ grease-id 0
    ∷ grease-written 0
    ∷ grease-id (2 ^ 64 - 1)
    -- "draws 50 and 51 give P = 200 and 150"
    ∷ payload-length 50
    ∷ payload-length 51
    -- "zero draws turn 1,2,3,4 into 2,3,4,1"
    ∷ shuffling (1 ∷ 2 ∷ 3 ∷ 4 ∷ []) (replicate 24 0)
    -- "06 01 01 bb 06 00 01 aa joins to aa bb, and so does 06 00 02 aa bb 06 01 01 bb"
    ∷ joining (0x06 ∷ 0x01 ∷ 0x01 ∷ 0xbb ∷ 0x06 ∷ 0x00 ∷ 0x01 ∷ 0xaa ∷ [])
    ∷ joining (0x06 ∷ 0x00 ∷ 0x02 ∷ 0xaa ∷ 0xbb ∷ 0x06 ∷ 0x01 ∷ 0x01 ∷ 0xbb ∷ [])
    -- "06 00 01 aa 06 00 01 ab gives 14; 06 01 01 bb gives 15"
    ∷ joining (0x06 ∷ 0x00 ∷ 0x01 ∷ 0xaa ∷ 0x06 ∷ 0x00 ∷ 0x01 ∷ 0xab ∷ [])
    ∷ joining (0x06 ∷ 0x01 ∷ 0x01 ∷ 0xbb ∷ [])
    ∷ []

abbrev pub answers : List (Answer Value)
answers =
    result (number 37)
    ∷ result (number 37)
    ∷ result (number 15293)
    ∷ result (number 494878333)
    ∷ result (number 1)
    ∷ result (number 2)
    ∷ refused 1
    ∷ result (number (2 ^ 61 + 25))
    ∷ result (bytes (0xe0 ∷ 0x00 ∷ 0x00 ∷ 0x00 ∷ 0x00 ∷ 0x00 ∷ 0x00 ∷ 0x19 ∷ []))
    ∷ result (number (2 ^ 61 + 2 ^ 58 + 17))
    ∷ result (number 200)
    ∷ result (number 150)
    ∷ result (list (2 ∷ 3 ∷ 4 ∷ 1 ∷ []))
    ∷ result (bytes (0xaa ∷ 0xbb ∷ []))
    ∷ result (bytes (0xaa ∷ 0xbb ∷ []))
    ∷ refused 14
    ∷ refused 15
    ∷ []
