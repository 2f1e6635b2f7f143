-- How many bytes each extension takes. Assumes nothing.
use Prim.Native.Nat.{ℕ, suc, ◌+◌, ◌*◌, ◌%◌}
use mathlib.Core.Path.{◌≡◌, refl, ap}
use mathlib.Core.Bool.{Bool, true, false, cond}
use mathlib.Core.List.{List, [], ◌∷◌, ◌++◌}
use native.Mathlib.Decide.{ℕ_discrete}
use native.Mathlib.Omega.{arith}
use lib.ListN.{length, length-append}
use Rattle.wire.specs.Numbers.{digits}
use Rattle.wire.specs.Vectors.{vector, words, extension, protocols}
use Rattle.wire.specs.Sums.{total}
use Rattle.wire.proofs.NumberLaws.{length_digits}
use Rattle.wire.proofs.VectorLaws.{length-vector, length-words}
use Rattle.profiles.specs.Sizes.{key_share_size, key_draws}
use Rattle.tape.specs.Tape.{rand_bytes, next_u64, payload_length}
use Rattle.tape.specs.Part.{Part}
use Rattle.tape.proofs.DrawLaws.{length-rand_bytes}
use Rattle.tls_extensions.specs.Extensions.{ext_server_name, ext_alpn, ext_u16_list, ext_supported_versions, ext_psk_ke_modes, ext_delegated_credentials, key_of, key_share, key_shares, ext_key_share, ext_application_settings, ext_encrypted_client_hello, ext_record_size_limit, ext_reneg_info, ext_status_request, ext_extended_master_secret, ext_compress_cert}
use Rattle.tls_extensions.proofs.ShareLaws.{size-secp, key-secp, key-other}

pub length-extension : (t : ℕ) (body : List ℕ) → length (extension t body) ≡ 4 + length body
unfolding extension
length-extension t body = omega (arith, length-append (digits 256 2 t) (vector 2 body), length_digits 256 2 t, length-vector 2 body)

-- the body is a list with its length before it, in so many bytes
pub length-listed : (t width : ℕ) (bs : List ℕ) → length (extension t (vector width bs)) ≡ 4 + width + length bs
length-listed t width bs = omega (arith, length-extension t (vector width bs), length-vector width bs)

pub length-server-name : (name : List ℕ) → length (ext_server_name name) ≡ 9 + length name
unfolding ext_server_name
length-server-name name = omega (arith, length-listed 0 2 (0 ∷ vector 2 name), length-vector 2 name)

pub length-protocols : (names : List (List ℕ)) → length (protocols names) ≡ total (λ name. 1 + length name) names
unfolding protocols total
length-protocols [] = refl
length-protocols (name ∷ names) = omega (arith, length-append (vector 1 name) (protocols names), length-vector 1 name, length-protocols names)

pub length-alpn : (names : List (List ℕ)) → length (ext_alpn names) ≡ 6 + total (λ name. 1 + length name) names
unfolding ext_alpn
length-alpn names = omega (arith, length-listed 16 2 (protocols names), length-protocols names)

pub length-u16-list : (t : ℕ) (values : List ℕ) → length (ext_u16_list t values) ≡ 6 + 2 * length values
unfolding ext_u16_list
length-u16-list t values = omega (arith, length-listed t 2 (words values), length-words values)

pub length-supported-versions : (vs : List ℕ) → length (ext_supported_versions vs) ≡ 5 + 2 * length vs
unfolding ext_supported_versions
length-supported-versions vs = omega (arith, length-listed 43 1 (words vs), length-words vs)

pub length-psk-ke-modes : length ext_psk_ke_modes ≡ 6
unfolding ext_psk_ke_modes
length-psk-ke-modes = length-listed 45 1 (1 ∷ [])

pub length-delegated-credentials : length ext_delegated_credentials ≡ 14
unfolding ext_delegated_credentials
length-delegated-credentials = length-u16-list 34 (1027 ∷ 1283 ∷ 1539 ∷ 515 ∷ [])

-- ---- Key shares

pub length-key-of : (g : ℕ) (tape : List ℕ) (at : ℕ) → length (key_of g tape at) ≡ key_share_size g
length-key-of g tape at = go (ℕ_discrete g 23)
  where
    go : Dec (g ≡ 23) → length (key_of g tape at) ≡ key_share_size g
    go (yes e) = rw (key-secp e tape at, size-secp e) (ap suc (length-rand_bytes 64 tape at))
    go (no e) = rw (key-other e tape at) (length-rand_bytes (key_share_size g) tape at)

pub length-key-share : (g : ℕ) (tape : List ℕ) (at : ℕ) → length (key_share g tape at).bytes ≡ 4 + key_share_size g
unfolding key_share
length-key-share g tape at =
    omega (
      arith,
      length-append (digits 256 2 g) (digits 256 2 (key_share_size g) ++ key_of g tape at),
      length-append (digits 256 2 (key_share_size g)) (key_of g tape at),
      length_digits 256 2 g,
      length_digits 256 2 (key_share_size g),
      length-key-of g tape at,
    )

pub length-key-shares : (gs tape : List ℕ) (at : ℕ) → length (key_shares gs tape at).bytes ≡ total (λ g. 4 + key_share_size g) gs
unfolding key_shares total
length-key-shares [] tape at = refl
length-key-shares (g ∷ gs) tape at =
    let share : Part = key_share g tape at in
    omega (
      arith,
      length-append share.bytes (key_shares gs tape share.next).bytes,
      length-key-share g tape at,
      length-key-shares gs tape share.next,
    )

pub next-key-shares : (gs tape : List ℕ) (at : ℕ) → (key_shares gs tape at).next ≡ at + total key_draws gs
unfolding key_shares key_share total
next-key-shares [] tape at = omega arith
next-key-shares (g ∷ gs) tape at = omega (arith, next-key-shares gs tape (at + key_draws g))

-- six bytes, and the shares
pub length-around-shares : (gs tape : List ℕ) (at : ℕ) → length (ext_key_share gs tape at).bytes ≡ 6 + length (key_shares gs tape at).bytes
unfolding ext_key_share
length-around-shares gs tape at = length-listed 51 2 (key_shares gs tape at).bytes

pub length-ext-key-share : (gs tape : List ℕ) (at : ℕ) → length (ext_key_share gs tape at).bytes ≡ 6 + total (λ g. 4 + key_share_size g) gs
length-ext-key-share gs tape at = omega (arith, length-around-shares gs tape at, length-key-shares gs tape at)

-- ---- The others

pub length-application-settings : length ext_application_settings ≡ 9
unfolding ext_application_settings
length-application-settings = length-extension 17613 (0 ∷ 3 ∷ 2 ∷ 104 ∷ 51 ∷ [])

pub length-random-vector : (n : ℕ) (tape : List ℕ) (at : ℕ) → length (vector 2 (rand_bytes n tape at)) ≡ 2 + n
length-random-vector n tape at = omega (arith, length-vector 2 (rand_bytes n tape at), length-rand_bytes n tape at)

-- six bytes, a drawn key and a drawn payload of n bytes
pub length-ech-body : (config n : ℕ) (tape : List ℕ) (at : ℕ)
    → length ((0 ∷ 0 ∷ 1 ∷ 0 ∷ 1 ∷ config ∷ []) ++ (vector 2 (rand_bytes 32 tape (at + 8)) ++ vector 2 (rand_bytes n tape (at + 48)))) ≡ 42 + n
length-ech-body config n tape at =
    omega (
      arith,
      length-append (vector 2 (rand_bytes 32 tape (at + 8))) (vector 2 (rand_bytes n tape (at + 48))),
      length-random-vector 32 tape (at + 8),
      length-random-vector n tape (at + 48),
    )

pub length-encrypted-client-hello : (tape : List ℕ) (at : ℕ) → length (ext_encrypted_client_hello tape at).bytes ≡ 46 + payload_length (next_u64 tape (at + 40))
unfolding ext_encrypted_client_hello
length-encrypted-client-hello tape at =
    let config : ℕ = next_u64 tape at % 256 in
    let n : ℕ = payload_length (next_u64 tape (at + 40)) in
    omega (
      arith,
      length-extension 65037 ((0 ∷ 0 ∷ 1 ∷ 0 ∷ 1 ∷ config ∷ []) ++ (vector 2 (rand_bytes 32 tape (at + 8)) ++ vector 2 (rand_bytes n tape (at + 48)))),
      length-ech-body config n tape at,
    )

pub length-record-size-limit : length ext_record_size_limit ≡ 6
unfolding ext_record_size_limit
length-record-size-limit = omega (arith, length-extension 28 (digits 256 2 16385), length_digits 256 2 16385)

pub length-reneg-info : length ext_reneg_info ≡ 5
unfolding ext_reneg_info
length-reneg-info = length-extension 65281 (0 ∷ [])

pub length-status-request : length ext_status_request ≡ 9
unfolding ext_status_request
length-status-request =
    omega (arith, length-extension 5 (1 ∷ (vector 2 [] ++ vector 2 [])), length-append (vector 2 []) (vector 2 []), length-vector 2 [])

pub length-extended-master-secret : length ext_extended_master_secret ≡ 4
unfolding ext_extended_master_secret
length-extended-master-secret = length-extension 23 []

pub length-compress-cert : (f : Bool) → length (ext_compress_cert f) ≡ cond f 11 7
unfolding ext_compress_cert
length-compress-cert true = omega (arith, length-listed 27 1 (words (1 ∷ 3 ∷ 2 ∷ [])), length-words (1 ∷ 3 ∷ 2 ∷ []))
length-compress-cert false = omega (arith, length-listed 27 1 (words (2 ∷ [])), length-words (2 ∷ []))
