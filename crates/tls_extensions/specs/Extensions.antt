-- The extensions of tls.rs, all but the transport parameters: each definition has the name of its Rust function.
use Rattle.std.specs.Prelude.{ℕ, ◌+◌, ◌%◌, Bool, cond, List, [], ◌∷◌, ◌++◌, eqb}
use Rattle.wire.specs.Numbers.{digits}
use Rattle.wire.specs.Vectors.{vector, words, protocols, extension}
use Rattle.profiles.specs.Sizes.{key_share_size, key_draws}
use Rattle.tape.specs.Tape.{rand_bytes, next_u64, payload_length}
use Rattle.tape.specs.Part.{Part, undrawn, followed, wrapped}

-- one entry: type 0, name
unfoldable pub ext_server_name : List ℕ → List ℕ
ext_server_name name = extension 0x0000 (vector 2 (0x00 ∷ vector 2 name))

unfoldable pub ext_alpn : List (List ℕ) → List ℕ
ext_alpn names = extension 0x0010 (vector 2 (protocols names))

unfoldable pub ext_u16_list : ℕ → List ℕ → List ℕ
ext_u16_list t values = extension t (vector 2 (words values))

unfoldable pub ext_supported_versions : List ℕ → List ℕ
ext_supported_versions versions = extension 0x002b (vector 1 (words versions))

-- psk_dhe_ke
unfoldable pub ext_psk_ke_modes : List ℕ
ext_psk_ke_modes = extension 0x002d (vector 1 (0x01 ∷ []))

unfoldable pub ext_delegated_credentials : List ℕ
ext_delegated_credentials = ext_u16_list 0x0022 (0x0403 ∷ 0x0503 ∷ 0x0603 ∷ 0x0203 ∷ [])

-- ---- Key shares

-- the key of a group: drawn, after the 04 of an uncompressed point for secp256r1
unfoldable pub key_of : ℕ → List ℕ → ℕ → List ℕ
key_of g tape at = cond (eqb g 0x0017) (0x04 ∷ rand_bytes (key_draws g) tape at) (rand_bytes (key_draws g) tape at)

unfoldable pub key_share : ℕ → List ℕ → ℕ → Part
key_share g tape at = record { bytes = digits 256 2 g ++ (digits 256 2 (key_share_size g) ++ key_of g tape at); next = at + key_draws g }

unfoldable pub key_shares : List ℕ → List ℕ → ℕ → Part
key_shares [] tape at = undrawn [] at
key_shares (g ∷ gs) tape at = followed (key_share g tape at) (key_shares gs tape)

unfoldable pub ext_key_share : List ℕ → List ℕ → ℕ → Part
ext_key_share groups tape at = wrapped (λ entries. extension 0x0033 (vector 2 entries)) (key_shares groups tape at)

-- the settings for "h3"
unfoldable pub ext_application_settings : List ℕ
ext_application_settings = extension 0x44cd (0x00 ∷ 0x03 ∷ 0x02 ∷ 0x68 ∷ 0x33 ∷ [])

-- outer, HKDF-SHA256 and AES-128-GCM, a drawn config id, a drawn key of 32 bytes, a payload of drawn length and drawn bytes
unfoldable pub ext_encrypted_client_hello : List ℕ → ℕ → Part
ext_encrypted_client_hello tape at =
    let pay = payload_length (next_u64 tape (at + 40)) in
    record {
      bytes =
          extension 0xfe0d
          ((0x00 ∷ 0x00 ∷ 0x01 ∷ 0x00 ∷ 0x01 ∷ next_u64 tape at % 256 ∷ [])
          ++ (vector 2 (rand_bytes 32 tape (at + 8)) ++ vector 2 (rand_bytes pay tape (at + 48))));
      next = at + 48 + pay;
    }

unfoldable pub ext_record_size_limit : List ℕ
ext_record_size_limit = extension 0x001c (digits 256 2 16385)

unfoldable pub ext_reneg_info : List ℕ
ext_reneg_info = extension 0xff01 (0x00 ∷ [])

-- ocsp, and two empty lists
unfoldable pub ext_status_request : List ℕ
ext_status_request = extension 0x0005 (0x01 ∷ (vector 2 [] ++ vector 2 []))

unfoldable pub ext_extended_master_secret : List ℕ
ext_extended_master_secret = extension 0x0017 []

-- zlib, zstd and brotli for Firefox, else brotli
unfoldable pub ext_compress_cert : Bool → List ℕ
ext_compress_cert firefox = extension 0x001b (vector 1 (words (cond firefox (1 ∷ 3 ∷ 2 ∷ []) (2 ∷ []))))

-- extensions whose bytes are the same in every hello; nothing for another type
unfoldable pub fixed_extension : ℕ → List ℕ
fixed_extension t =
    cond (eqb t 0x002d) ext_psk_ke_modes
    (cond (eqb t 0x001c) ext_record_size_limit
    (cond (eqb t 0xff01) ext_reneg_info
    (cond (eqb t 0x0005) ext_status_request
    (cond (eqb t 0x0017) ext_extended_master_secret
    (cond (eqb t 0x0022) ext_delegated_credentials
    (cond (eqb t 0x44cd) ext_application_settings []))))))
