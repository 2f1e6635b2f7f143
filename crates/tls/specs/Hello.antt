-- `build_extension` and `generate_client_hello` of tls.rs: a hello from any profile, name, connection id and tape.
use Rattle.std.specs.Prelude.{ℕ, ◌+◌, cond, List, [], ◌∷◌, ◌++◌, eqb}
use Rattle.wire.specs.Numbers.{digits}
use Rattle.wire.specs.Vectors.{vector, words}
use Rattle.profiles.specs.Profile.{Profile}
use Rattle.profiles.specs.Sizes.{session_length, after_order, extension_extent}
use Rattle.tape.specs.Tape.{rand_bytes, next_u64, shuffle, payload_length}
use Rattle.tape.specs.Part.{Part, undrawn, followed, wrapped}
use Rattle.tls_extensions.specs.Extensions
use Rattle.tls_parameters.specs.Parameters.{ext_quic_tp}

-- what an extension of a type is; a type that is not known is not written
unfoldable pub build_extension : Profile → List ℕ → List ℕ → List ℕ → ℕ → ℕ → Part
build_extension p name scid tape t at =
    cond (eqb t 0x0000) (undrawn (Extensions.ext_server_name name) at)
    (cond (eqb t 0x0010) (undrawn (Extensions.ext_alpn p.alpn) at)
    (cond (eqb t 0x000a) (undrawn (Extensions.ext_u16_list 0x000a p.supported_groups) at)
    (cond (eqb t 0x000d) (undrawn (Extensions.ext_u16_list 0x000d p.signature_algorithms) at)
    (cond (eqb t 0x002b) (undrawn (Extensions.ext_supported_versions p.supported_versions) at)
    (cond (eqb t 0x0033) (Extensions.ext_key_share p.key_share_groups tape at)
    (cond (eqb t 0x0039) (ext_quic_tp p.quic_tp scid tape at)
    (cond (eqb t 0x001b) (undrawn (Extensions.ext_compress_cert p.firefox_compression) at)
    (cond (eqb t 0xfe0d) (Extensions.ext_encrypted_client_hello tape at)
    (undrawn (Extensions.fixed_extension t) at)))))))))

-- the extensions in the order given, each drawing from where the last one stopped
unfoldable pub build_extensions : Profile → List ℕ → List ℕ → List ℕ → List ℕ → ℕ → Part
build_extensions p name scid tape [] at = undrawn [] at
build_extensions p name scid tape (t ∷ ts) at = followed (build_extension p name scid tape t at) (build_extensions p name scid tape ts)

-- "32 random bytes; 32 session id bytes for curl; the extension shuffle for Chrome and Firefox; then what each extension needs, in the
-- order now standing"
unfoldable pub order : Profile → List ℕ → List ℕ
order p tape = cond p.randomize_extensions_order (shuffle 0 p.extensions_order tape (32 + session_length p)) p.extensions_order

-- legacy_version, random, session id, suites, compression
unfoldable pub fields : Profile → List ℕ → List ℕ
fields p tape =
    digits 256 2 0x0303
    ++ (rand_bytes 32 tape 0
    ++ (vector 1 (rand_bytes (session_length p) tape 32) ++ (vector 2 (words p.cipher_suites) ++ vector 1 (0x00 ∷ []))))

-- the block of extensions
unfoldable pub block : Profile → List ℕ → List ℕ → List ℕ → Part
block p name scid tape = build_extensions p name scid tape (order p tape) (after_order p)

-- all that stands after the message's head
unfoldable pub body : Profile → List ℕ → List ℕ → List ℕ → Part
body p name scid tape = wrapped (λ extensions. fields p tape ++ vector 2 extensions) (block p name scid tape)

-- message type 1, and the body with its length in three bytes
unfoldable pub hello : Profile → List ℕ → List ℕ → List ℕ → Part
hello p name scid tape = wrapped (λ b. 0x01 ∷ vector 3 b) (body p name scid tape)

-- ---- P, the length of the ECH payload of a hello

-- where the draws of the ECH extension begin, in an order of extensions that draws from a place on
unfoldable pub ech_place : Profile → List ℕ → ℕ → ℕ
ech_place p [] at = at
ech_place p (t ∷ ts) at = cond (eqb t 0xfe0d) at (ech_place p ts (at + (extension_extent p 0 0 0 t).drawn))

-- it draws 8 bytes for the config id and 32 for the key, and then P
unfoldable pub payload : Profile → List ℕ → ℕ
payload p tape = payload_length (next_u64 tape (ech_place p (order p tape) (after_order p) + 40))
