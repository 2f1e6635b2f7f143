-- Places in blobs that tell the splitter from wrong ones: where a record ends, where the end is found, and where 27 is said. Assumes nothing.
use Prim.Native.Nat.{ℕ}
use mathlib.Core.Path.{◌≡◌, refl}
use mathlib.Core.List.{List, [], ◌∷◌, map}
use Rattle.wire.specs.Answer.{Answer, result, refused}
use Rattle.wire.specs.Numbers.{number_on, number}
use Rattle.records.specs.Records.{Found, record-to, end, length_at, record_at, record_of}

-- a blob and a place
pub record Place : Type 0 where
  pub blob : List ℕ
  pub at : ℕ

pub record Said : Type 0 where
  pub found : Answer Found
  pub part : List ℕ

abbrev pub says : Place → Said
says p = record { found = record_at p.blob p.at; part = record_of p.blob p.at }

abbrev pub places : List Place
places =
    -- fewer than two bytes left: a splitter that refuses half a length says 27
    record { blob = 0x00 ∷ []; at = 0 }
    ∷ record { blob = 0x00 ∷ []; at = 1 }
    -- a place past the end
    ∷ record { blob = 0x00 ∷ []; at = 2 }
    -- a record of no bytes: a splitter that says "end" with a record left says it here
    ∷ record { blob = 0x00 ∷ 0x00 ∷ []; at = 0 }
    -- a cut record: a splitter that hands back what there is of it gives aa
    ∷ record { blob = 0x00 ∷ 0x02 ∷ 0xaa ∷ []; at = 0 }
    -- a whole one: a splitter that hands it back with its length gives 0001aa
    ∷ record { blob = 0x00 ∷ 0x01 ∷ 0xaa ∷ []; at = 0 }
    ∷ record { blob = 0x00 ∷ 0x01 ∷ 0xaa ∷ 0x00 ∷ []; at = 3 }
    ∷ []

abbrev pub answers : List Said
answers =
    record { found = result end; part = [] }
    ∷ record { found = result end; part = [] }
    ∷ record { found = refused 27; part = [] }
    ∷ record { found = result (record-to 2); part = [] }
    ∷ record { found = refused 27; part = [] }
    ∷ record { found = result (record-to 3); part = 0xaa ∷ [] }
    ∷ record { found = result end; part = [] }
    ∷ []

pub samples : map says places ≡ answers
unfolding number number_on length_at record_at record_of
samples = refl
