-- profiles.rs as values: what a profile is, and the three.
use Rattle.std.specs.Prelude.{ℕ, zero, suc, Bool, true, false, List, [], ◌∷◌}

-- `TpEntry`
pub data Parameter : Type 0 where
  varint : ℕ → ℕ → Parameter
  bytes : ℕ → List ℕ → Parameter
  version_info : ℕ → Parameter
  scid_source : ℕ → Parameter
  grease : Parameter

-- `Profile`. A type that is listed is sent: two flags of the Rust's, with which it could be left out, are `true` wherever it is listed.
-- firefox_compression is `name == BrowserProfile::Firefox`, which plays a part in compress_certificate alone.
pub record Profile : Type 0 where
  pub cipher_suites : List ℕ
  pub extensions_order : List ℕ
  pub supported_groups : List ℕ
  pub signature_algorithms : List ℕ
  pub supported_versions : List ℕ
  pub key_share_groups : List ℕ
  pub alpn : List (List ℕ)
  pub quic_tp : List Parameter
  pub firefox_compression : Bool
  pub use_empty_session_id : Bool
  pub randomize_extensions_order : Bool

-- "h3"
abbrev pub h3 : List ℕ
h3 = 0x68 ∷ 0x33 ∷ []

unfoldable pub chrome_profile : Profile
chrome_profile = record {
  cipher_suites = 0x1301 ∷ 0x1302 ∷ 0x1303 ∷ [];
  extensions_order =
      0x0000 ∷ 0x000a ∷ 0x000d ∷ 0x0010 ∷ 0x001b ∷ 0x002b ∷ 0x002d ∷ 0x0033 ∷ 0x0039 ∷ 0x44cd ∷ 0xfe0d ∷ [];
  supported_groups = 0x11ec ∷ 0x001d ∷ 0x0017 ∷ 0x0018 ∷ [];
  signature_algorithms = 0x0403 ∷ 0x0804 ∷ 0x0401 ∷ 0x0503 ∷ 0x0805 ∷ 0x0501 ∷ 0x0806 ∷ 0x0601 ∷ 0x0201 ∷ [];
  supported_versions = 0x0304 ∷ [];
  key_share_groups = 0x11ec ∷ 0x001d ∷ [];
  alpn = h3 ∷ [];
  quic_tp =
      varint 0x04 15728640
      ∷ bytes 0x0f []
      ∷ varint 0x07 6291456
      ∷ varint 0x05 6291456
      ∷ varint 0x03 1472
      ∷ varint 0x06 6291456
      ∷ varint 0x08 100
      ∷ varint 0x3127 18196
      ∷ varint 0x20 65536
      ∷ version_info 0x11
      ∷ varint 0x01 30000
      ∷ varint 0x09 103
      ∷ grease
      ∷ [];
  firefox_compression = false;
  use_empty_session_id = true;
  randomize_extensions_order = true;
}

unfoldable pub firefox_profile : Profile
firefox_profile = record {
  cipher_suites = 0x1301 ∷ 0x1303 ∷ 0x1302 ∷ [];
  extensions_order =
      0x0000 ∷ 0x0005 ∷ 0x0022 ∷ 0x000d ∷ 0x000a ∷ 0x0017 ∷ 0xff01 ∷ 0x001c ∷ 0x002d ∷ 0x001b ∷ 0x0033 ∷ 0x0010 ∷ 0x002b ∷ 0x0039 ∷ 0xfe0d ∷ [];
  supported_groups = 0x11ec ∷ 0x001d ∷ 0x0017 ∷ 0x0018 ∷ 0x0019 ∷ [];
  signature_algorithms =
      0x0403 ∷ 0x0503 ∷ 0x0603 ∷ 0x0203 ∷ 0x0804 ∷ 0x0805 ∷ 0x0806 ∷ 0x0401 ∷ 0x0501 ∷ 0x0601 ∷ 0x0201 ∷ [];
  supported_versions = 0x0304 ∷ [];
  key_share_groups = 0x11ec ∷ 0x001d ∷ 0x0017 ∷ [];
  alpn = h3 ∷ [];
  quic_tp =
      varint 0x01 30000
      ∷ varint 0x04 25165824
      ∷ varint 0x05 12582912
      ∷ varint 0x06 1048576
      ∷ varint 0x07 1048576
      ∷ varint 0x08 100
      ∷ varint 0x09 100
      ∷ varint 0x0b 20
      ∷ varint 0x0e 8
      ∷ scid_source 0x0f
      ∷ version_info 0x11
      ∷ bytes 0xff02de1a (0x43 ∷ 0xe8 ∷ [])
      ∷ varint 0x20 65535
      ∷ [];
  firefox_compression = true;
  use_empty_session_id = true;
  randomize_extensions_order = true;
}

unfoldable pub curl_profile : Profile
curl_profile = record {
  cipher_suites = 0x1301 ∷ 0x1302 ∷ 0x1303 ∷ [];
  extensions_order = 0x0000 ∷ 0x002b ∷ 0x000a ∷ 0x000d ∷ 0x0010 ∷ 0x0033 ∷ 0x002d ∷ 0x0039 ∷ 0x001b ∷ 0xfe0d ∷ [];
  supported_groups = 0x001d ∷ 0x0017 ∷ 0x0018 ∷ [];
  signature_algorithms = 0x0403 ∷ 0x0503 ∷ 0x0603 ∷ 0x0804 ∷ 0x0805 ∷ 0x0806 ∷ [];
  supported_versions = 0x0304 ∷ [];
  key_share_groups = 0x001d ∷ [];
  alpn = h3 ∷ [];
  quic_tp =
      varint 0x01 30000
      ∷ varint 0x03 1472
      ∷ varint 0x04 10485760
      ∷ varint 0x05 5242880
      ∷ varint 0x06 5242880
      ∷ varint 0x07 5242880
      ∷ varint 0x08 100
      ∷ varint 0x09 100
      ∷ varint 0x0e 2
      ∷ bytes 0x0f []
      ∷ [];
  firefox_compression = false;
  use_empty_session_id = false;
  randomize_extensions_order = false;
}

-- `for_browser`: "Profile 0 is Chrome, 1 Firefox, 2 curl"; no call asks for another
unfoldable pub for_browser : ℕ → Profile
for_browser zero = chrome_profile
for_browser (suc zero) = firefox_profile
for_browser (suc (suc n)) = curl_profile
