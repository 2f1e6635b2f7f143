-- Closed inputs that tell the maker from wrong ones: for each of the questions 4 to 9, for the count drawn, for the order of the draws, and
-- for a maker that ignores its tape. Assumes nothing.
use Prim.Native.Nat.{ℕ, ◌+◌, ◌^◌}
use mathlib.Core.Path.{◌≡◌, refl, sym, ap, ◌∙◌}
use mathlib.Core.List.{List, [], ◌∷◌, ◌++◌, map, flatten, append_assoc}
use lib.ListN.{take, drop, replicate}
use lib.Seq.{take_at}
use Rattle.wire.specs.Answer.{Answer, result, refused}
use Rattle.wire.specs.Numbers.{digits}
use Rattle.wire.specs.Vectors.{vector, words, protocols, extension}
use Rattle.wire.specs.Sums.{total, swapped}
use Rattle.varint.specs.Varint.{first_above, class, form, shortest}
use Rattle.profiles.specs.Profile.{Profile, chrome_profile, firefox_profile, curl_profile, for_browser}
use Rattle.profiles.specs.Sizes.{key_share_size, key_draws, parameter_draws, parameter_length, fixed_length, extension_extent, session_length, after_order, hello_length, hello_drawn}
use Rattle.profiles.specs.Test.{all}
use Rattle.tape.specs.Tape.{rand_bytes, lowest_first, next_u64, remainders, swaps, shuffle, raised, grease_id, payload_length, grease_byte, version_information}
use Rattle.tape.proofs.DrawLaws.{length-rand_bytes}
use Rattle.tls_extensions.specs.Extensions
use Rattle.tls_extensions.specs.Extensions.{key_of, key_share, key_shares, ext_key_share, ext_encrypted_client_hello}
use Rattle.tls_parameters.specs.Parameters.{resolve, resolved, after_parameters, sent_parameters, parameter, parameters, ext_quic_tp}
use Rattle.tls.specs.Hello.{build_extension, build_extensions, order, fields, block, body, hello}
use Rattle.tls.specs.Make.{plain, ask_name, ask_room, make_with, make_of}
use Rattle.tls.specs.declared.Hello.{Hello}
use Rattle.tls.proofs.Sent.{pieces}

-- ---- Questions 4 to 9

-- a tape of zeros makes P 150, the least
abbrev pub makes : ℕ → List ℕ → ℕ → ℕ → ℕ → Answer Hello
makes browser name scid tape room = make_of browser name (replicate scid 0) (replicate tape 0) room

-- the name "a"
abbrev pub host : List ℕ
host = 0x61 ∷ []

abbrev pub refusals : List (Answer Hello)
refusals =
    -- 4: the profile is a number of 64 bits. A maker that cuts it to 8 bits makes Chrome's hello, one that cuts it to 32 bits Firefox's.
    makes 256 host 0 1726 1735
    ∷ makes (2 ^ 32 + 1) host 0 1808 1834
    ∷ makes 3 host 0 1808 1834
    -- 5: no byte, and 256 bytes, which a maker takes that asks for 256 at most
    ∷ makes 2 [] 0 416 746
    ∷ makes 2 (replicate 256 0x61) 0 416 746
    -- 6: of every byte. A maker that asks only the first takes the first two.
    ∷ makes 2 (0x61 ∷ 0x20 ∷ []) 0 416 492
    ∷ makes 2 (0x61 ∷ 0x7f ∷ []) 0 416 492
    ∷ makes 2 (0x20 ∷ []) 0 416 491
    ∷ makes 2 (0x7f ∷ []) 0 416 491
    -- 7: of every profile. A maker that asks it of Firefox alone takes the first and the last.
    ∷ makes 0 host 21 1726 1735
    ∷ makes 1 host 21 1808 1855
    ∷ makes 2 host 21 416 491
    -- 8: by the most that a profile draws. A maker that asks for what is drawn, 50 bytes less, takes all three.
    ∷ makes 0 host 0 1725 1735
    ∷ makes 1 host 0 1807 1834
    ∷ makes 2 host 0 415 491
    -- 9: by the longest hello. A maker that asks by the P that is drawn takes all three.
    ∷ makes 0 host 0 1726 1734
    ∷ makes 1 host 20 1808 1853
    ∷ makes 2 host 0 416 490
    -- the first "no" wins
    ∷ makes 3 [] 21 0 0
    ∷ makes 2 (replicate 256 0x00) 21 0 0
    ∷ makes 2 (0x20 ∷ []) 21 0 0
    ∷ makes 2 host 21 0 0
    ∷ makes 2 host 20 0 0
    ∷ []

abbrev pub numbers : List ℕ
numbers = 4 ∷ 4 ∷ 4 ∷ 5 ∷ 5 ∷ 6 ∷ 6 ∷ 6 ∷ 6 ∷ 7 ∷ 7 ∷ 7 ∷ 8 ∷ 8 ∷ 8 ∷ 9 ∷ 9 ∷ 9 ∷ 4 ∷ 5 ∷ 6 ∷ 7 ∷ 8 ∷ []

pub refused-by : refusals ≡ map refused numbers
unfolding
    make_of make_with ask_name ask_room plain all for_browser chrome_profile firefox_profile curl_profile hello_length hello_drawn extension_extent fixed_length total key_share_size key_draws parameter_draws parameter_length first_above class
refused-by = refl

-- every question's "yes" next to its "no": names of bytes 33 and 126 and of 255 bytes, connection ids of 20, tapes and outputs of just the
-- length. The last draws 50 at place 208, which makes P 200: a count drawn that is made up is wrong in one of them.
abbrev pub hellos : List (Answer Hello)
hellos =
    makes 0 host 20 1726 1735
    ∷ makes 1 host 20 1808 1854
    ∷ makes 2 host 20 416 491
    ∷ makes 2 (0x21 ∷ 0x7e ∷ []) 0 416 492
    ∷ makes 2 (replicate 255 0x61) 0 416 745
    ∷ make_of 2 host [] (replicate 208 0 ++ (50 ∷ replicate 207 0)) 491
    ∷ []

abbrev pub lengths : List Hello
lengths =
    record { length = 1685; drawn = 1676 }
    ∷ record { length = 1804; drawn = 1758 }
    ∷ record { length = 441; drawn = 366 }
    ∷ record { length = 442; drawn = 366 }
    ∷ record { length = 695; drawn = 366 }
    ∷ record { length = 491; drawn = 416 }
    ∷ []

pub made-from : hellos ≡ map result lengths
unfolding
    make_of make_with ask_name ask_room plain all for_browser chrome_profile firefox_profile curl_profile hello_length hello_drawn extension_extent fixed_length total key_share_size key_draws parameter_draws parameter_length first_above class form shortest hello body fields block order build_extensions build_extension Extensions.fixed_extension ext_key_share key_shares key_share key_of ext_quic_tp resolve resolved after_parameters sent_parameters parameter parameters ext_encrypted_client_hello Extensions.ext_server_name Extensions.ext_alpn Extensions.ext_u16_list Extensions.ext_supported_versions Extensions.ext_psk_ke_modes Extensions.ext_delegated_credentials Extensions.ext_application_settings Extensions.ext_record_size_limit Extensions.ext_reneg_info Extensions.ext_status_request Extensions.ext_extended_master_secret Extensions.ext_compress_cert vector words protocols extension digits swapped shuffle swaps remainders next_u64 lowest_first rand_bytes raised grease_id payload_length grease_byte version_information
made-from = refl

-- ---- A maker that does not shuffle, and one that draws for the extensions in profile order and sends them in the order drawn

-- 32 random bytes; Chrome's shuffle, which exchanges places 10 and 0, so that ECH stands first, and then each place with itself; and then a
-- byte 7 among zeros
unfoldable pub tape : List ℕ
tape =
    replicate 32 0
    ++ (flatten (map (λ draw. draw ∷ replicate 7 0) (0 ∷ 9 ∷ 8 ∷ 7 ∷ 6 ∷ 5 ∷ 4 ∷ 3 ∷ 2 ∷ 1 ∷ []))
    ++ (7 ∷ replicate 1613 0))

-- the block of extensions begins with ECH, and the byte after its type, length and suite is its config id: the low byte of the first draw.
-- A maker that does not shuffle has server_name there.
pub config-id-drawn-first : take 10 (block chrome_profile host [] tape).bytes ≡ 0xfe ∷ 0x0d ∷ 0x00 ∷ 0xc0 ∷ 0x00 ∷ 0x00 ∷ 0x01 ∷ 0x00 ∷ 0x01 ∷ 0x07 ∷ []
unfolding
    tape flatten chrome_profile block order shuffle swaps remainders swapped next_u64 lowest_first rand_bytes build_extensions build_extension Extensions.fixed_extension ext_encrypted_client_hello extension vector digits payload_length
config-id-drawn-first = refl

-- the block of the maker that draws in profile order
unfoldable pub in_profile_order : List ℕ
in_profile_order =
    flatten (shuffle [] (pieces chrome_profile host [] tape chrome_profile.extensions_order (after_order chrome_profile)) tape 32)

-- key_share, which is before ECH in the profile, has the byte 7 in its key
pub config-id-drawn-late : take 10 in_profile_order ≡ 0xfe ∷ 0x0d ∷ 0x00 ∷ 0xc0 ∷ 0x00 ∷ 0x00 ∷ 0x01 ∷ 0x00 ∷ 0x01 ∷ 0x00 ∷ []
unfolding
    in_profile_order tape flatten pieces chrome_profile shuffle swaps remainders swapped next_u64 lowest_first rand_bytes build_extension Extensions.fixed_extension ext_key_share key_shares key_share key_of key_share_size key_draws ext_quic_tp after_parameters parameter_draws ext_encrypted_client_hello extension vector digits payload_length
config-id-drawn-late = refl

-- ---- A maker that ignores its tape

-- after type, length and version stand the tape's first 32 bytes, whatever the profile and the tape
pub random-drawn : (p : Profile) (name scid tape : List ℕ) → take 32 (drop 6 (hello p name scid tape).bytes) ≡ rand_bytes 32 tape 0
unfolding hello body fields vector digits
random-drawn p name scid tape =
    let more : List ℕ = vector 1 (rand_bytes (session_length p) tape 32) ++ (vector 2 (words p.cipher_suites) ++ vector 1 (0x00 ∷ [])) in
    let extensions : List ℕ = vector 2 (block p name scid tape).bytes in
    ap (take 32) (append_assoc (rand_bytes 32 tape 0) more extensions)
    ∙ take_at (rand_bytes 32 tape 0) (more ++ extensions) 32 (length-rand_bytes 32 tape 0)

-- so two hellos that are equal, of one profile, name and connection id, come from tapes whose first 32 bytes are the same
pub tape-tells : (p : Profile) (name scid tape other : List ℕ)
    → (hello p name scid tape).bytes ≡ (hello p name scid other).bytes → rand_bytes 32 tape 0 ≡ rand_bytes 32 other 0
tape-tells p name scid tape other e =
    sym (random-drawn p name scid tape) ∙ ap (λ (bs : List ℕ). take 32 (drop 6 bs)) e ∙ random-drawn p name scid other
