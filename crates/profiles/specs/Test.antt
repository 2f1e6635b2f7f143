-- What every proof needs of a profile, as a test that computes.
use Rattle.std.specs.Prelude.{ℕ, ◌^◌, Bool, true, not, ◌&&◌, List, [], ◌∷◌, map, length, eqb, ltb, leb}
use Rattle.wire.specs.Sums.{member, distinct}
use Rattle.profiles.specs.Profile.{Parameter, varint, bytes, version_info, scid_source, grease, Profile}
use Rattle.profiles.specs.Sizes.{longest, tape_needed}

unfoldable pub all : {A : Type 0} → (A → Bool) → List A → Bool
all q [] = true
all q (x ∷ xs) = q x && all q xs

-- from least to most elements
abbrev pub counted : {A : Type 0} → ℕ → ℕ → List A → Bool
counted least most l = leb least (length l) && leb (length l) most

-- a list of 16-bit numbers, within the report's count
unfoldable pub word_list : List ℕ → Bool
word_list l = counted 1 64 l && all (λ v. ltb v 65536) l

-- GREASE stands for all ids from 2^61 on
abbrev pub id_of : Parameter → ℕ
id_of (varint i v) = i
id_of (bytes i b) = i
id_of (version_info i) = i
id_of (scid_source i) = i
id_of grease = 2 ^ 61

-- ids of profiles are below 2^61, and 0x11 is version information and nothing else
unfoldable pub id_ok : ℕ → Bool
id_ok i = ltb i (2 ^ 61) && not (eqb i 0x11)

-- numbers have a varint, and bytes are bytes
unfoldable pub parameter_ok : Parameter → Bool
parameter_ok (varint i v) = id_ok i && ltb v (2 ^ 62)
parameter_ok (bytes i b) = id_ok i && all (λ x. ltb x 256) b
parameter_ok (version_info i) = eqb i 0x11
parameter_ok (scid_source i) = id_ok i
parameter_ok grease = true

-- the types that `build_extension` knows
abbrev pub known_types : List ℕ
known_types =
    0x0000 ∷ 0x0005 ∷ 0x000a ∷ 0x000d ∷ 0x0010 ∷ 0x0017 ∷ 0x001b ∷ 0x001c ∷ 0x0022 ∷ 0x002b ∷ 0x002d ∷ 0x0033 ∷ 0x0039 ∷ 0x44cd ∷ 0xfe0d ∷ 0xff01 ∷ []

unfoldable pub known : ℕ → Bool
known t = member t known_types

-- types once each and all known, server_name among them; lists within the report's counts; protocols of 1 to 255 bytes; parameter ids
-- once each; every hello of at most 2^14 bytes, so that the joiner takes it and each length has its place
unfoldable pub passes : Profile → Bool
passes p =
    word_list p.extensions_order && (distinct p.extensions_order && (all known p.extensions_order && (member 0x0000 p.extensions_order
    && (word_list p.cipher_suites && (word_list p.supported_groups && (word_list p.signature_algorithms && (word_list p.supported_versions
    && (word_list p.key_share_groups
    && (counted 1 16 p.alpn && (all (λ name. counted 1 255 name && all (λ x. ltb x 256) name) p.alpn
    && (counted 0 64 p.quic_tp && (all parameter_ok p.quic_tp && (distinct (map id_of p.quic_tp)
    && (leb (longest p 255 20) 16384 && leb (tape_needed p) 16384))))))))))))))
