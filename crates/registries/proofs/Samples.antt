-- Names that numbers have, and one that has none. Assumes nothing.
use mathlib.Core.Path.{◌≡◌, refl}
use mathlib.Core.List.{[], ◌∷◌, map}
use Prim.Native.Nat.{ℕ}
use Rattle.script.specs.Scan.{text, distance, find_of}
use Rattle.script.specs.Words.{word_from, word_of}
use Rattle.registries.specs.Registry.{texts, word, place_of, spare_words, name_in}
use Rattle.registries.specs.Tables.{suites, suite_names, groups, group_names, types, type_names, versions, version_names}
use Rattle.registries.specs.Tables.{parameters, parameter_names, suite_name, group_name, type_name, version_name, parameter_name}

-- the place of a number at the start, in the middle, at the end, and of one that is not there. Not of a program that gives the place
-- after it.
pub places : map (λ (v : ℕ). place_of v (3 ∷ 5 ∷ 7 ∷ [])) (3 ∷ 5 ∷ 7 ∷ 4 ∷ []) ≡ 0 ∷ 1 ∷ 2 ∷ 3 ∷ []
unfolding place_of distance
places = refl

-- three versions that stand together. Not of a program whose table exchanges two of them.
pub datagram-versions : map (version_name 0) (0xfefc ∷ 0xfefd ∷ 0xfeff ∷ []) ≡ text "DTLS_1.3" ∷ text "DTLS_1.2" ∷ text "DTLS_1.0" ∷ []
unfolding version_name versions version_names texts name_in place_of word word_of word_from find_of distance
datagram-versions = refl

pub suite-1301 : suite_name 0 0x1301 ≡ text "TLS_AES_128_GCM_SHA256"
unfolding suite_name suites suite_names texts name_in place_of word word_of word_from find_of distance
suite-1301 = refl

pub group-17 : group_name 0 0x0017 ≡ text "secp256r1"
unfolding group_name groups group_names texts name_in place_of word word_of word_from find_of distance
group-17 = refl

pub type-17 : type_name 0 0x0017 ≡ text "extended_master_secret"
unfolding type_name types type_names texts name_in place_of word word_of word_from find_of distance
type-17 = refl

pub parameter-1 : parameter_name 0 0x01 ≡ text "max_idle_timeout"
unfolding parameter_name parameters parameter_names texts name_in place_of word word_of word_from find_of distance
parameter-1 = refl

-- of a number without a name: unknown, and GREASE where it is kept free
pub types-unnamed : map (λ (spare : ℕ). type_name spare 0x5005) (0 ∷ 1 ∷ []) ≡ text "unknown" ∷ text "GREASE" ∷ []
unfolding type_name types name_in place_of word spare_words word_of word_from find_of distance
types-unnamed = refl
