-- A part of the hello: its bytes, and the place on the tape after the last byte that was drawn for it.
use Rattle.std.specs.Prelude.{ℕ, ◌≤◌, ◌<◌, ◌≡◌, List, ◌++◌, length}
use Rattle.wire.specs.Front.{Put}
use Rattle.tape.specs.declared.Wrote.{Wrote}

pub record Part : Type 0 where
  pub bytes : List ℕ
  pub next : ℕ

-- bytes for which nothing is drawn
abbrev pub undrawn : List ℕ → ℕ → Part
undrawn bs at = record { bytes = bs; next = at }

-- a part, and another that draws from where the first stopped
abbrev pub followed : Part → (ℕ → Part) → Part
followed a rest = record { bytes = a.bytes ++ (rest a.next).bytes; next = (rest a.next).next }

-- the same draws, with other bytes made of those
abbrev pub wrapped : (List ℕ → List ℕ) → Part → Part
wrapped f a = record { bytes = f a.bytes; next = a.next }

-- ---- What a writer asks for and promises

-- the part fits the output and a length of two bytes, and its draws are on the tape
pub record Room (a : Part) (room tape : ℕ) : Type 0 where
  pub fits : length a.bytes ≤ room
  pub small : length a.bytes < 65536
  pub there : a.next ≤ tape

-- the part stands at the output's front, later bytes as they were; the result is its length, and the place after its draws
pub record Puts (a : Part) (r : Wrote) (old new : List ℕ) : Type 0 where
  pub put : Put a.bytes r.length old new
  pub next : r.next ≡ a.next
