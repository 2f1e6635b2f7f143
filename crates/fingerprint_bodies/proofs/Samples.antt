-- Closed bodies: what the questions say of them. Each contract is an equation with its question, so a program that answers one of them
-- otherwise does not meet it; the comments name such programs as ruled out. Assumes nothing.
use mathlib.Core.Path.{◌≡◌, refl}
use mathlib.Core.List.{[], ◌∷◌, map}
use Rattle.wire.specs.Numbers.{number, number_on}
use Rattle.fingerprint_bodies.specs.Entries.{bind, taken, number_at, vector_at, whole, first, entries, all_entries}
use Rattle.fingerprint_bodies.specs.Forms.{words_in, even_words, word_list, one_share, key_shares}
use Rattle.fingerprint_bodies.specs.Code.{within}

-- one group; half a group more. Ruled out: a reader that drops an odd last byte
pub groups-asked :
    map (λ body. within 64 (word_list 2 body))
    ((0x00 ∷ 0x02 ∷ 0x00 ∷ 0x1d ∷ [])
    ∷ (0x00 ∷ 0x03 ∷ 0x00 ∷ 0x1d ∷ 0x00 ∷ [])
    ∷ [])
    ≡ 0 ∷ 21 ∷ []
unfolding within word_list even_words words_in whole vector_at number_at taken bind number number_on
groups-asked = refl

-- no key share; one of a key of one byte; one that says 32 bytes, of which one is there. Ruled out: a reader that moves on by any length
pub shares-asked :
    map (λ body. within 64 (key_shares body))
    ((0x00 ∷ 0x00 ∷ [])
    ∷ (0x00 ∷ 0x05 ∷ 0x00 ∷ 0x1d ∷ 0x00 ∷ 0x01 ∷ 0x61 ∷ [])
    ∷ (0x00 ∷ 0x05 ∷ 0x00 ∷ 0x1d ∷ 0x00 ∷ 0x20 ∷ 0x61 ∷ [])
    ∷ [])
    ≡ 0 ∷ 0 ∷ 21 ∷ []
unfolding within key_shares one_share first entries all_entries whole vector_at number_at taken bind number number_on
shares-asked = refl
