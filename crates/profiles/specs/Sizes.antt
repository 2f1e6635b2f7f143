-- How many bytes a profile's hello takes, and how many it draws, as sums over the profile. n is the name's length, s the connection
-- id's, pay the ECH payload's.
use Rattle.std.specs.Prelude.{ℕ, ◌+◌, ◌-◌, ◌*◌, cond, length, eqb}
use Rattle.wire.specs.Sums.{total}
use Rattle.varint.specs.Varint.{width, class}
use Rattle.profiles.specs.Profile.{Parameter, varint, bytes, version_info, scid_source, grease, Profile}

-- bytes written and bytes drawn
pub record Extent : Type 0 where
  pub written : ℕ
  pub drawn : ℕ

abbrev pub written-only : ℕ → Extent
written-only n = record { written = n; drawn = 0 }

-- ---- Key shares

-- `key_share_size`: secp256r1, X25519MLKEM768, X25519 and others
unfoldable pub key_share_size : ℕ → ℕ
key_share_size g = cond (eqb g 0x0017) 65 (cond (eqb g 0x11ec) 1216 32)

-- the key is drawn, but for the first byte of secp256r1's
unfoldable pub key_draws : ℕ → ℕ
key_draws g = cond (eqb g 0x0017) (key_share_size g - 1) (key_share_size g)

-- ---- Transport parameters

unfoldable pub parameter_draws : Parameter → ℕ
parameter_draws (varint i v) = 0
parameter_draws (bytes i b) = 0
parameter_draws (version_info i) = 8
parameter_draws (scid_source i) = 0
parameter_draws grease = 14

-- id, length and value, where the value has so many bytes
abbrev pub entry_length : ℕ → ℕ → ℕ
entry_length id_width n = id_width + (width (class n) + n)

-- a GREASE id takes 8 bytes
unfoldable pub parameter_length : ℕ → Parameter → ℕ
parameter_length s (varint i v) = entry_length (width (class i)) (width (class v))
parameter_length s (bytes i b) = entry_length (width (class i)) (length b)
parameter_length s (version_info i) = entry_length (width (class i)) 12
parameter_length s (scid_source i) = entry_length (width (class i)) s
parameter_length s grease = entry_length 8 6

-- ---- Extensions: each has a type and a length, of two bytes each, before its body

-- those whose bytes are the same in every hello
unfoldable pub fixed_length : ℕ → ℕ
fixed_length t =
    cond (eqb t 0x002d) 6
    (cond (eqb t 0x001c) 6
    (cond (eqb t 0xff01) 5
    (cond (eqb t 0x0005) 9
    (cond (eqb t 0x0017) 4
    (cond (eqb t 0x0022) 14
    (cond (eqb t 0x44cd) 9 0))))))

unfoldable pub extension_extent : Profile → ℕ → ℕ → ℕ → ℕ → Extent
extension_extent p n s pay t =
    cond (eqb t 0x0000) (written-only (9 + n))
    (cond (eqb t 0x0010) (written-only (6 + total (λ name. 1 + length name) p.alpn))
    (cond (eqb t 0x000a) (written-only (6 + 2 * length p.supported_groups))
    (cond (eqb t 0x000d) (written-only (6 + 2 * length p.signature_algorithms))
    (cond (eqb t 0x002b) (written-only (5 + 2 * length p.supported_versions))
    (cond (eqb t 0x0033)
    (record { written = 6 + total (λ g. 4 + key_share_size g) p.key_share_groups; drawn = total key_draws p.key_share_groups })
    (cond (eqb t 0x0039)
    (record {
      written = 4 + total (parameter_length s) p.quic_tp;
      drawn = total parameter_draws p.quic_tp + 8 * (length p.quic_tp - 1);
    })
    (cond (eqb t 0x001b) (written-only (cond p.firefox_compression 11 7))
    (cond (eqb t 0xfe0d) (record { written = 46 + pay; drawn = 48 + pay })
    (written-only (fixed_length t))))))))))

-- ---- The hello

abbrev pub session_length : Profile → ℕ
session_length p = cond p.use_empty_session_id 0 32

-- the draws before those of the extensions: random bytes, session id, shuffle
abbrev pub order_draws : Profile → ℕ
order_draws p = cond p.randomize_extensions_order (8 * (length p.extensions_order - 1)) 0

abbrev pub after_order : Profile → ℕ
after_order p = 32 + session_length p + order_draws p

-- message head 4, version 2, random bytes 32, session id and its length, suites and their length, compression 2, length of the block
unfoldable pub hello_length : Profile → ℕ → ℕ → ℕ → ℕ
hello_length p n s pay =
    45 + session_length p + 2 * length p.cipher_suites + total (λ t. (extension_extent p n s pay t).written) p.extensions_order

unfoldable pub hello_drawn : Profile → ℕ → ℕ
hello_drawn p pay = after_order p + total (λ t. (extension_extent p 0 0 pay t).drawn) p.extensions_order

-- "hello length with P = 200", "tape needed"
abbrev pub longest : Profile → ℕ → ℕ → ℕ
longest p n s = hello_length p n s 200

abbrev pub tape_needed : Profile → ℕ
tape_needed p = hello_drawn p 200
