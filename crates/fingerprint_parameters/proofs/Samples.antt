-- Closed bodies of transport parameters: what the questions say of them. The number that `ask_parameters` gives is that of the questions,
-- so a program that answers one of these otherwise does not meet its contract; the comments name such programs as ruled out. Assumes
-- nothing.
use Prim.Native.Nat.{ℕ, zero, suc}
use mathlib.Core.Path.{◌≡◌, refl}
use mathlib.Core.List.{List, [], ◌∷◌, ◌++◌, map}
use Rattle.wire.specs.Numbers.{number, number_on}
use Rattle.wire.specs.Sums.{any, member, distinct}
use Rattle.varint.specs.Varint.{class_at, read_of}
use Rattle.fingerprint_bodies.specs.Entries.{bind, mapped, taken, first, entries, all_entries}
use Rattle.fingerprint_bodies.specs.Body.{parameters}
use Rattle.fingerprint_bodies.specs.Forms.{varint_at, one_parameter, transport_parameters, body_of, ids_new, within_counts}
use Rattle.fingerprint_bodies.specs.Code.{asked}

-- ids from 0 up to n, each with an empty value
unfoldable pub ids_below : ℕ → List ℕ
ids_below zero = []
ids_below (suc n) = ids_below n ++ (n ∷ 0x00 ∷ [])

-- 66 ids, of which the last two are equal
abbrev pub last_twice : List ℕ
last_twice = ids_below 64 ++ (0x40 ∷ 0x40 ∷ 0x00 ∷ 0x40 ∷ 0x40 ∷ 0x00 ∷ [])

pub numbers :
    map (asked parameters)
    -- values of two bytes, of which one is there: id and length in a byte each, and the id in two. Ruled out: a value past the end
    ((0x01 ∷ 0x02 ∷ 0x61 ∷ [])
    ∷ (0x40 ∷ 0x01 ∷ 0x02 ∷ 0x61 ∷ [])
    -- Ruled out: more than 64 ids that are not compared
    ∷ last_twice
    ∷ [])
    ≡ 21 ∷ 21 ∷ 22 ∷ []
unfolding
    ids_below number number_on any member distinct class_at read_of bind mapped taken first entries all_entries varint_at one_parameter transport_parameters body_of ids_new
    within_counts asked
numbers = refl
