-- The registries: numbers, which rise, and their names in the same order. Each name is a word of a text.
use Rattle.std.specs.Prelude.{ℕ, List, [], ◌∷◌}
use Rattle.registries.specs.Registry.{texts, name_in}

-- Cipher suites: RFC 5246 and those before it, RFC 8446, RFC 8422, RFC 5289 and others that offer them; those with pre-shared keys, and
-- national ones, only where real greetings have them.
unfoldable pub suites : List ℕ
suites =
    0x0000 ∷ 0x0001 ∷ 0x0002 ∷ 0x0003 ∷ 0x0004 ∷ 0x0005 ∷ 0x0006 ∷ 0x0007 ∷ 0x0008 ∷ 0x0009 ∷ 0x000a ∷ 0x000b ∷ 0x000c ∷
    0x000d ∷ 0x000e ∷ 0x000f ∷ 0x0010 ∷ 0x0011 ∷ 0x0012 ∷ 0x0013 ∷ 0x0014 ∷ 0x0015 ∷ 0x0016 ∷ 0x0017 ∷ 0x0018 ∷ 0x0019 ∷
    0x001a ∷ 0x001b ∷ 0x002f ∷ 0x0030 ∷ 0x0031 ∷ 0x0032 ∷ 0x0033 ∷ 0x0034 ∷ 0x0035 ∷ 0x0036 ∷ 0x0037 ∷ 0x0038 ∷ 0x0039 ∷
    0x003a ∷ 0x003b ∷ 0x003c ∷ 0x003d ∷ 0x003e ∷ 0x003f ∷ 0x0040 ∷ 0x0041 ∷ 0x0042 ∷ 0x0043 ∷ 0x0044 ∷ 0x0045 ∷ 0x0046 ∷
    0x0060 ∷ 0x0061 ∷ 0x0062 ∷ 0x0063 ∷ 0x0064 ∷ 0x0065 ∷ 0x0066 ∷ 0x0067 ∷ 0x0068 ∷ 0x0069 ∷ 0x006a ∷ 0x006b ∷ 0x006c ∷
    0x006d ∷ 0x0084 ∷ 0x0085 ∷ 0x0086 ∷ 0x0087 ∷ 0x0088 ∷ 0x0089 ∷ 0x0092 ∷ 0x0093 ∷ 0x0094 ∷ 0x0095 ∷ 0x0096 ∷ 0x0097 ∷
    0x0098 ∷ 0x0099 ∷ 0x009a ∷ 0x009b ∷ 0x009c ∷ 0x009d ∷ 0x009e ∷ 0x009f ∷ 0x00a0 ∷ 0x00a1 ∷ 0x00a2 ∷ 0x00a3 ∷ 0x00a4 ∷
    0x00a5 ∷ 0x00a6 ∷ 0x00a7 ∷ 0x00ba ∷ 0x00bb ∷ 0x00bc ∷ 0x00bd ∷ 0x00be ∷ 0x00bf ∷ 0x00c0 ∷ 0x00c1 ∷ 0x00c2 ∷ 0x00c3 ∷
    0x00c4 ∷ 0x00c5 ∷ 0x00ff ∷ 0x1301 ∷ 0x1302 ∷ 0x1303 ∷ 0x1304 ∷ 0x1305 ∷ 0x5600 ∷ 0xc001 ∷ 0xc002 ∷ 0xc003 ∷ 0xc004 ∷
    0xc005 ∷ 0xc006 ∷ 0xc007 ∷ 0xc008 ∷ 0xc009 ∷ 0xc00a ∷ 0xc00b ∷ 0xc00c ∷ 0xc00d ∷ 0xc00e ∷ 0xc00f ∷ 0xc010 ∷ 0xc011 ∷
    0xc012 ∷ 0xc013 ∷ 0xc014 ∷ 0xc015 ∷ 0xc016 ∷ 0xc017 ∷ 0xc018 ∷ 0xc019 ∷ 0xc023 ∷ 0xc024 ∷ 0xc025 ∷ 0xc026 ∷ 0xc027 ∷
    0xc028 ∷ 0xc029 ∷ 0xc02a ∷ 0xc02b ∷ 0xc02c ∷ 0xc02d ∷ 0xc02e ∷ 0xc02f ∷ 0xc030 ∷ 0xc031 ∷ 0xc032 ∷ 0xc072 ∷ 0xc073 ∷
    0xc074 ∷ 0xc075 ∷ 0xc076 ∷ 0xc077 ∷ 0xc078 ∷ 0xc079 ∷ 0xc07a ∷ 0xc07b ∷ 0xc07c ∷ 0xc07d ∷ 0xc07e ∷ 0xc07f ∷ 0xc080 ∷
    0xc081 ∷ 0xc082 ∷ 0xc083 ∷ 0xc084 ∷ 0xc085 ∷ 0xc086 ∷ 0xc087 ∷ 0xc088 ∷ 0xc089 ∷ 0xc08a ∷ 0xc08b ∷ 0xc08c ∷ 0xc08d ∷
    0xc09c ∷ 0xc09d ∷ 0xc09e ∷ 0xc09f ∷ 0xc0a0 ∷ 0xc0a1 ∷ 0xc0a2 ∷ 0xc0a3 ∷ 0xc0ac ∷ 0xc0ad ∷ 0xc0ae ∷ 0xc0af ∷ 0xcca8 ∷
    0xcca9 ∷ 0xccaa ∷ []

unfoldable pub suite_names : List ℕ
suite_names =
    texts (
    "TLS_NULL_WITH_NULL_NULL TLS_RSA_WITH_NULL_MD5 TLS_RSA_WITH_NULL_SHA TLS_RSA_EXPORT_WITH_RC4_40_MD5 " ∷
    "TLS_RSA_WITH_RC4_128_MD5 TLS_RSA_WITH_RC4_128_SHA TLS_RSA_EXPORT_WITH_RC2_CBC_40_MD5 " ∷
    "TLS_RSA_WITH_IDEA_CBC_SHA TLS_RSA_EXPORT_WITH_DES40_CBC_SHA TLS_RSA_WITH_DES_CBC_SHA " ∷
    "TLS_RSA_WITH_3DES_EDE_CBC_SHA TLS_DH_DSS_EXPORT_WITH_DES40_CBC_SHA TLS_DH_DSS_WITH_DES_CBC_SHA " ∷
    "TLS_DH_DSS_WITH_3DES_EDE_CBC_SHA TLS_DH_RSA_EXPORT_WITH_DES40_CBC_SHA TLS_DH_RSA_WITH_DES_CBC_SHA " ∷
    "TLS_DH_RSA_WITH_3DES_EDE_CBC_SHA TLS_DHE_DSS_EXPORT_WITH_DES40_CBC_SHA TLS_DHE_DSS_WITH_DES_CBC_SHA " ∷
    "TLS_DHE_DSS_WITH_3DES_EDE_CBC_SHA TLS_DHE_RSA_EXPORT_WITH_DES40_CBC_SHA TLS_DHE_RSA_WITH_DES_CBC_SHA " ∷
    "TLS_DHE_RSA_WITH_3DES_EDE_CBC_SHA TLS_DH_anon_EXPORT_WITH_RC4_40_MD5 TLS_DH_anon_WITH_RC4_128_MD5 " ∷
    "TLS_DH_anon_EXPORT_WITH_DES40_CBC_SHA TLS_DH_anon_WITH_DES_CBC_SHA TLS_DH_anon_WITH_3DES_EDE_CBC_SHA " ∷
    "TLS_RSA_WITH_AES_128_CBC_SHA TLS_DH_DSS_WITH_AES_128_CBC_SHA TLS_DH_RSA_WITH_AES_128_CBC_SHA " ∷
    "TLS_DHE_DSS_WITH_AES_128_CBC_SHA TLS_DHE_RSA_WITH_AES_128_CBC_SHA TLS_DH_anon_WITH_AES_128_CBC_SHA " ∷
    "TLS_RSA_WITH_AES_256_CBC_SHA TLS_DH_DSS_WITH_AES_256_CBC_SHA TLS_DH_RSA_WITH_AES_256_CBC_SHA " ∷
    "TLS_DHE_DSS_WITH_AES_256_CBC_SHA TLS_DHE_RSA_WITH_AES_256_CBC_SHA TLS_DH_anon_WITH_AES_256_CBC_SHA " ∷
    "TLS_RSA_WITH_NULL_SHA256 TLS_RSA_WITH_AES_128_CBC_SHA256 TLS_RSA_WITH_AES_256_CBC_SHA256 " ∷
    "TLS_DH_DSS_WITH_AES_128_CBC_SHA256 TLS_DH_RSA_WITH_AES_128_CBC_SHA256 TLS_DHE_DSS_WITH_AES_128_CBC_SHA256 " ∷
    "TLS_RSA_WITH_CAMELLIA_128_CBC_SHA TLS_DH_DSS_WITH_CAMELLIA_128_CBC_SHA TLS_DH_RSA_WITH_CAMELLIA_128_CBC_SHA " ∷
    "TLS_DHE_DSS_WITH_CAMELLIA_128_CBC_SHA TLS_DHE_RSA_WITH_CAMELLIA_128_CBC_SHA " ∷
    "TLS_DH_anon_WITH_CAMELLIA_128_CBC_SHA TLS_RSA_EXPORT1024_WITH_RC4_56_MD5 " ∷
    "TLS_RSA_EXPORT1024_WITH_RC2_CBC_56_MD5 TLS_RSA_EXPORT1024_WITH_DES_CBC_SHA " ∷
    "TLS_DHE_DSS_EXPORT1024_WITH_DES_CBC_SHA TLS_RSA_EXPORT1024_WITH_RC4_56_SHA " ∷
    "TLS_DHE_DSS_EXPORT1024_WITH_RC4_56_SHA TLS_DHE_DSS_WITH_RC4_128_SHA TLS_DHE_RSA_WITH_AES_128_CBC_SHA256 " ∷
    "TLS_DH_DSS_WITH_AES_256_CBC_SHA256 TLS_DH_RSA_WITH_AES_256_CBC_SHA256 TLS_DHE_DSS_WITH_AES_256_CBC_SHA256 " ∷
    "TLS_DHE_RSA_WITH_AES_256_CBC_SHA256 TLS_DH_anon_WITH_AES_128_CBC_SHA256 TLS_DH_anon_WITH_AES_256_CBC_SHA256 " ∷
    "TLS_RSA_WITH_CAMELLIA_256_CBC_SHA TLS_DH_DSS_WITH_CAMELLIA_256_CBC_SHA TLS_DH_RSA_WITH_CAMELLIA_256_CBC_SHA " ∷
    "TLS_DHE_DSS_WITH_CAMELLIA_256_CBC_SHA TLS_DHE_RSA_WITH_CAMELLIA_256_CBC_SHA " ∷
    "TLS_DH_anon_WITH_CAMELLIA_256_CBC_SHA TLS_RSA_PSK_WITH_RC4_128_SHA TLS_RSA_PSK_WITH_3DES_EDE_CBC_SHA " ∷
    "TLS_RSA_PSK_WITH_AES_128_CBC_SHA TLS_RSA_PSK_WITH_AES_256_CBC_SHA TLS_RSA_WITH_SEED_CBC_SHA " ∷
    "TLS_DH_DSS_WITH_SEED_CBC_SHA TLS_DH_RSA_WITH_SEED_CBC_SHA TLS_DHE_DSS_WITH_SEED_CBC_SHA " ∷
    "TLS_DHE_RSA_WITH_SEED_CBC_SHA TLS_DH_anon_WITH_SEED_CBC_SHA TLS_RSA_WITH_AES_128_GCM_SHA256 " ∷
    "TLS_RSA_WITH_AES_256_GCM_SHA384 TLS_DHE_RSA_WITH_AES_128_GCM_SHA256 TLS_DHE_RSA_WITH_AES_256_GCM_SHA384 " ∷
    "TLS_DH_RSA_WITH_AES_128_GCM_SHA256 TLS_DH_RSA_WITH_AES_256_GCM_SHA384 TLS_DHE_DSS_WITH_AES_128_GCM_SHA256 " ∷
    "TLS_DHE_DSS_WITH_AES_256_GCM_SHA384 TLS_DH_DSS_WITH_AES_128_GCM_SHA256 TLS_DH_DSS_WITH_AES_256_GCM_SHA384 " ∷
    "TLS_DH_anon_WITH_AES_128_GCM_SHA256 TLS_DH_anon_WITH_AES_256_GCM_SHA384 TLS_RSA_WITH_CAMELLIA_128_CBC_SHA256 " ∷
    "TLS_DH_DSS_WITH_CAMELLIA_128_CBC_SHA256 TLS_DH_RSA_WITH_CAMELLIA_128_CBC_SHA256 " ∷
    "TLS_DHE_DSS_WITH_CAMELLIA_128_CBC_SHA256 TLS_DHE_RSA_WITH_CAMELLIA_128_CBC_SHA256 " ∷
    "TLS_DH_anon_WITH_CAMELLIA_128_CBC_SHA256 TLS_RSA_WITH_CAMELLIA_256_CBC_SHA256 " ∷
    "TLS_DH_DSS_WITH_CAMELLIA_256_CBC_SHA256 TLS_DH_RSA_WITH_CAMELLIA_256_CBC_SHA256 " ∷
    "TLS_DHE_DSS_WITH_CAMELLIA_256_CBC_SHA256 TLS_DHE_RSA_WITH_CAMELLIA_256_CBC_SHA256 " ∷
    "TLS_DH_anon_WITH_CAMELLIA_256_CBC_SHA256 TLS_EMPTY_RENEGOTIATION_INFO_SCSV TLS_AES_128_GCM_SHA256 " ∷
    "TLS_AES_256_GCM_SHA384 TLS_CHACHA20_POLY1305_SHA256 TLS_AES_128_CCM_SHA256 TLS_AES_128_CCM_8_SHA256 " ∷
    "TLS_FALLBACK_SCSV TLS_ECDH_ECDSA_WITH_NULL_SHA TLS_ECDH_ECDSA_WITH_RC4_128_SHA " ∷
    "TLS_ECDH_ECDSA_WITH_3DES_EDE_CBC_SHA TLS_ECDH_ECDSA_WITH_AES_128_CBC_SHA TLS_ECDH_ECDSA_WITH_AES_256_CBC_SHA " ∷
    "TLS_ECDHE_ECDSA_WITH_NULL_SHA TLS_ECDHE_ECDSA_WITH_RC4_128_SHA TLS_ECDHE_ECDSA_WITH_3DES_EDE_CBC_SHA " ∷
    "TLS_ECDHE_ECDSA_WITH_AES_128_CBC_SHA TLS_ECDHE_ECDSA_WITH_AES_256_CBC_SHA TLS_ECDH_RSA_WITH_NULL_SHA " ∷
    "TLS_ECDH_RSA_WITH_RC4_128_SHA TLS_ECDH_RSA_WITH_3DES_EDE_CBC_SHA TLS_ECDH_RSA_WITH_AES_128_CBC_SHA " ∷
    "TLS_ECDH_RSA_WITH_AES_256_CBC_SHA TLS_ECDHE_RSA_WITH_NULL_SHA TLS_ECDHE_RSA_WITH_RC4_128_SHA " ∷
    "TLS_ECDHE_RSA_WITH_3DES_EDE_CBC_SHA TLS_ECDHE_RSA_WITH_AES_128_CBC_SHA TLS_ECDHE_RSA_WITH_AES_256_CBC_SHA " ∷
    "TLS_ECDH_anon_WITH_NULL_SHA TLS_ECDH_anon_WITH_RC4_128_SHA TLS_ECDH_anon_WITH_3DES_EDE_CBC_SHA " ∷
    "TLS_ECDH_anon_WITH_AES_128_CBC_SHA TLS_ECDH_anon_WITH_AES_256_CBC_SHA TLS_ECDHE_ECDSA_WITH_AES_128_CBC_SHA256 " ∷
    "TLS_ECDHE_ECDSA_WITH_AES_256_CBC_SHA384 TLS_ECDH_ECDSA_WITH_AES_128_CBC_SHA256 " ∷
    "TLS_ECDH_ECDSA_WITH_AES_256_CBC_SHA384 TLS_ECDHE_RSA_WITH_AES_128_CBC_SHA256 " ∷
    "TLS_ECDHE_RSA_WITH_AES_256_CBC_SHA384 TLS_ECDH_RSA_WITH_AES_128_CBC_SHA256 " ∷
    "TLS_ECDH_RSA_WITH_AES_256_CBC_SHA384 TLS_ECDHE_ECDSA_WITH_AES_128_GCM_SHA256 " ∷
    "TLS_ECDHE_ECDSA_WITH_AES_256_GCM_SHA384 TLS_ECDH_ECDSA_WITH_AES_128_GCM_SHA256 " ∷
    "TLS_ECDH_ECDSA_WITH_AES_256_GCM_SHA384 TLS_ECDHE_RSA_WITH_AES_128_GCM_SHA256 " ∷
    "TLS_ECDHE_RSA_WITH_AES_256_GCM_SHA384 TLS_ECDH_RSA_WITH_AES_128_GCM_SHA256 " ∷
    "TLS_ECDH_RSA_WITH_AES_256_GCM_SHA384 TLS_ECDHE_ECDSA_WITH_CAMELLIA_128_CBC_SHA256 " ∷
    "TLS_ECDHE_ECDSA_WITH_CAMELLIA_256_CBC_SHA384 TLS_ECDH_ECDSA_WITH_CAMELLIA_128_CBC_SHA256 " ∷
    "TLS_ECDH_ECDSA_WITH_CAMELLIA_256_CBC_SHA384 TLS_ECDHE_RSA_WITH_CAMELLIA_128_CBC_SHA256 " ∷
    "TLS_ECDHE_RSA_WITH_CAMELLIA_256_CBC_SHA384 TLS_ECDH_RSA_WITH_CAMELLIA_128_CBC_SHA256 " ∷
    "TLS_ECDH_RSA_WITH_CAMELLIA_256_CBC_SHA384 TLS_RSA_WITH_CAMELLIA_128_GCM_SHA256 " ∷
    "TLS_RSA_WITH_CAMELLIA_256_GCM_SHA384 TLS_DHE_RSA_WITH_CAMELLIA_128_GCM_SHA256 " ∷
    "TLS_DHE_RSA_WITH_CAMELLIA_256_GCM_SHA384 TLS_DH_RSA_WITH_CAMELLIA_128_GCM_SHA256 " ∷
    "TLS_DH_RSA_WITH_CAMELLIA_256_GCM_SHA384 TLS_DHE_DSS_WITH_CAMELLIA_128_GCM_SHA256 " ∷
    "TLS_DHE_DSS_WITH_CAMELLIA_256_GCM_SHA384 TLS_DH_DSS_WITH_CAMELLIA_128_GCM_SHA256 " ∷
    "TLS_DH_DSS_WITH_CAMELLIA_256_GCM_SHA384 TLS_DH_anon_WITH_CAMELLIA_128_GCM_SHA256 " ∷
    "TLS_DH_anon_WITH_CAMELLIA_256_GCM_SHA384 TLS_ECDHE_ECDSA_WITH_CAMELLIA_128_GCM_SHA256 " ∷
    "TLS_ECDHE_ECDSA_WITH_CAMELLIA_256_GCM_SHA384 TLS_ECDH_ECDSA_WITH_CAMELLIA_128_GCM_SHA256 " ∷
    "TLS_ECDH_ECDSA_WITH_CAMELLIA_256_GCM_SHA384 TLS_ECDHE_RSA_WITH_CAMELLIA_128_GCM_SHA256 " ∷
    "TLS_ECDHE_RSA_WITH_CAMELLIA_256_GCM_SHA384 TLS_ECDH_RSA_WITH_CAMELLIA_128_GCM_SHA256 " ∷
    "TLS_ECDH_RSA_WITH_CAMELLIA_256_GCM_SHA384 TLS_RSA_WITH_AES_128_CCM TLS_RSA_WITH_AES_256_CCM " ∷
    "TLS_DHE_RSA_WITH_AES_128_CCM TLS_DHE_RSA_WITH_AES_256_CCM TLS_RSA_WITH_AES_128_CCM_8 " ∷
    "TLS_RSA_WITH_AES_256_CCM_8 TLS_DHE_RSA_WITH_AES_128_CCM_8 TLS_DHE_RSA_WITH_AES_256_CCM_8 " ∷
    "TLS_ECDHE_ECDSA_WITH_AES_128_CCM TLS_ECDHE_ECDSA_WITH_AES_256_CCM TLS_ECDHE_ECDSA_WITH_AES_128_CCM_8 " ∷
    "TLS_ECDHE_ECDSA_WITH_AES_256_CCM_8 TLS_ECDHE_RSA_WITH_CHACHA20_POLY1305_SHA256 " ∷
    "TLS_ECDHE_ECDSA_WITH_CHACHA20_POLY1305_SHA256 TLS_DHE_RSA_WITH_CHACHA20_POLY1305_SHA256" ∷ [])

unfoldable pub suite_name : ℕ → ℕ → List ℕ
suite_name spare v = name_in suites suite_names spare v

-- Groups: RFC 8422, RFC 7919, RFC 8446, RFC 8734, and the hybrids that browsers send.
unfoldable pub groups : List ℕ
groups =
    0x0001 ∷ 0x0002 ∷ 0x0003 ∷ 0x0004 ∷ 0x0005 ∷ 0x0006 ∷ 0x0007 ∷ 0x0008 ∷ 0x0009 ∷ 0x000a ∷ 0x000b ∷ 0x000c ∷ 0x000d ∷
    0x000e ∷ 0x000f ∷ 0x0010 ∷ 0x0011 ∷ 0x0012 ∷ 0x0013 ∷ 0x0014 ∷ 0x0015 ∷ 0x0016 ∷ 0x0017 ∷ 0x0018 ∷ 0x0019 ∷ 0x001a ∷
    0x001b ∷ 0x001c ∷ 0x001d ∷ 0x001e ∷ 0x001f ∷ 0x0020 ∷ 0x0021 ∷ 0x0029 ∷ 0x0100 ∷ 0x0101 ∷ 0x0102 ∷ 0x0103 ∷ 0x0104 ∷
    0x0200 ∷ 0x0201 ∷ 0x0202 ∷ 0x11eb ∷ 0x11ec ∷ 0x11ed ∷ 0x6399 ∷ 0x639a ∷ 0xff01 ∷ 0xff02 ∷ []

unfoldable pub group_names : List ℕ
group_names =
    texts (
    "sect163k1 sect163r1 sect163r2 sect193r1 sect193r2 sect233k1 sect233r1 sect239k1 sect283k1 sect283r1 sect409k1 " ∷
    "sect409r1 sect571k1 sect571r1 secp160k1 secp160r1 secp160r2 secp192k1 secp192r1 secp224k1 secp224r1 secp256k1 " ∷
    "secp256r1 secp384r1 secp521r1 brainpoolP256r1 brainpoolP384r1 brainpoolP512r1 x25519 x448 " ∷
    "brainpoolP256r1tls13 brainpoolP384r1tls13 brainpoolP512r1tls13 curveSM2 ffdhe2048 ffdhe3072 ffdhe4096 " ∷
    "ffdhe6144 ffdhe8192 MLKEM512 MLKEM768 MLKEM1024 SecP256r1MLKEM768 X25519MLKEM768 SecP384r1MLKEM1024 " ∷
    "X25519Kyber768Draft00 SecP256r1Kyber768Draft00 arbitrary_explicit_prime_curves arbitrary_explicit_char2_curves" ∷ [])

unfoldable pub group_name : ℕ → ℕ → List ℕ
group_name spare v = name_in groups group_names spare v

-- Signature algorithms: RFC 8446, section 4.2.3, RFC 8734, and the pairs of RFC 5246.
unfoldable pub algorithms : List ℕ
algorithms =
    0x0101 ∷ 0x0102 ∷ 0x0103 ∷ 0x0201 ∷ 0x0202 ∷ 0x0203 ∷ 0x0301 ∷ 0x0302 ∷ 0x0303 ∷ 0x0401 ∷ 0x0402 ∷ 0x0403 ∷ 0x0501 ∷
    0x0502 ∷ 0x0503 ∷ 0x0601 ∷ 0x0602 ∷ 0x0603 ∷ 0x0708 ∷ 0x0804 ∷ 0x0805 ∷ 0x0806 ∷ 0x0807 ∷ 0x0808 ∷ 0x0809 ∷ 0x080a ∷
    0x080b ∷ 0x081a ∷ 0x081b ∷ 0x081c ∷ 0x0904 ∷ 0x0905 ∷ 0x0906 ∷ []

unfoldable pub algorithm_names : List ℕ
algorithm_names =
    texts (
    "rsa_pkcs1_md5 dsa_md5 ecdsa_md5 rsa_pkcs1_sha1 dsa_sha1 ecdsa_sha1 rsa_pkcs1_sha224 dsa_sha224 ecdsa_sha224 " ∷
    "rsa_pkcs1_sha256 dsa_sha256 ecdsa_secp256r1_sha256 rsa_pkcs1_sha384 dsa_sha384 ecdsa_secp384r1_sha384 " ∷
    "rsa_pkcs1_sha512 dsa_sha512 ecdsa_secp521r1_sha512 sm2sig_sm3 rsa_pss_rsae_sha256 rsa_pss_rsae_sha384 " ∷
    "rsa_pss_rsae_sha512 ed25519 ed448 rsa_pss_pss_sha256 rsa_pss_pss_sha384 rsa_pss_pss_sha512 " ∷
    "ecdsa_brainpoolP256r1tls13_sha256 ecdsa_brainpoolP384r1tls13_sha384 ecdsa_brainpoolP512r1tls13_sha512 mldsa44 " ∷
    "mldsa65 mldsa87" ∷ [])

unfoldable pub algorithm_name : ℕ → ℕ → List ℕ
algorithm_name spare v = name_in algorithms algorithm_names spare v

-- Extension types: RFC 6066, RFC 8446, section 4.2, and others; the last are those that browsers send without an RFC.
unfoldable pub types : List ℕ
types =
    0x0000 ∷ 0x0001 ∷ 0x0002 ∷ 0x0003 ∷ 0x0004 ∷ 0x0005 ∷ 0x0006 ∷ 0x0007 ∷ 0x0008 ∷ 0x0009 ∷ 0x000a ∷ 0x000b ∷ 0x000c ∷
    0x000d ∷ 0x000e ∷ 0x000f ∷ 0x0010 ∷ 0x0011 ∷ 0x0012 ∷ 0x0013 ∷ 0x0014 ∷ 0x0015 ∷ 0x0016 ∷ 0x0017 ∷ 0x0018 ∷ 0x0019 ∷
    0x001a ∷ 0x001b ∷ 0x001c ∷ 0x001d ∷ 0x001e ∷ 0x001f ∷ 0x0020 ∷ 0x0021 ∷ 0x0022 ∷ 0x0023 ∷ 0x0024 ∷ 0x0025 ∷ 0x0026 ∷
    0x0027 ∷ 0x0029 ∷ 0x002a ∷ 0x002b ∷ 0x002c ∷ 0x002d ∷ 0x002f ∷ 0x0030 ∷ 0x0031 ∷ 0x0032 ∷ 0x0033 ∷ 0x0034 ∷ 0x0035 ∷
    0x0036 ∷ 0x0037 ∷ 0x0038 ∷ 0x0039 ∷ 0x003a ∷ 0x003b ∷ 0x003c ∷ 0x003d ∷ 0x003e ∷ 0x3374 ∷ 0x4469 ∷ 0x44cd ∷ 0x754f ∷
    0x7550 ∷ 0xca34 ∷ 0xfd00 ∷ 0xfe0d ∷ 0xff01 ∷ 0xffa5 ∷ 0xffce ∷ []

unfoldable pub type_names : List ℕ
type_names =
    texts (
    "server_name max_fragment_length client_certificate_url trusted_ca_keys truncated_hmac status_request " ∷
    "user_mapping client_authz server_authz cert_type supported_groups ec_point_formats srp signature_algorithms " ∷
    "use_srtp heartbeat application_layer_protocol_negotiation status_request_v2 signed_certificate_timestamp " ∷
    "client_certificate_type server_certificate_type padding encrypt_then_mac extended_master_secret token_binding " ∷
    "cached_info tls_lts compress_certificate record_size_limit pwd_protect pwd_clear password_salt ticket_pinning " ∷
    "tls_cert_with_extern_psk delegated_credentials session_ticket TLMSP TLMSP_proxying TLMSP_delegate " ∷
    "supported_ekt_ciphers pre_shared_key early_data supported_versions cookie psk_key_exchange_modes " ∷
    "certificate_authorities oid_filters post_handshake_auth signature_algorithms_cert key_share transparency_info " ∷
    "connection_id_deprecated connection_id external_id_hash external_session_id quic_transport_parameters " ∷
    "ticket_request dnssec_chain sequence_number_encryption_algorithms rrc tls_flags next_protocol_negotiation " ∷
    "application_settings_old application_settings channel_id_old channel_id trust_anchors ech_outer_extensions " ∷
    "encrypted_client_hello renegotiation_info quic_transport_parameters_drafts encrypted_server_name" ∷ [])

unfoldable pub type_name : ℕ → ℕ → List ℕ
type_name spare v = name_in types type_names spare v

-- Versions: RFC 8446, section 4.2.1, and those before it.
unfoldable pub versions : List ℕ
versions =
    0x0002 ∷ 0x0300 ∷ 0x0301 ∷ 0x0302 ∷ 0x0303 ∷ 0x0304 ∷ 0xfefc ∷ 0xfefd ∷ 0xfeff ∷ []

unfoldable pub version_names : List ℕ
version_names =
    texts (
    "SSL_2.0 SSL_3.0 TLS_1.0 TLS_1.1 TLS_1.2 TLS_1.3 DTLS_1.3 DTLS_1.2 DTLS_1.0" ∷ [])

unfoldable pub version_name : ℕ → ℕ → List ℕ
version_name spare v = name_in versions version_names spare v

-- Transport parameters: RFC 9000, section 18.2, RFC 9221, RFC 9287, RFC 9368, and those that browsers send without an RFC.
unfoldable pub parameters : List ℕ
parameters =
    0x0000 ∷ 0x0001 ∷ 0x0002 ∷ 0x0003 ∷ 0x0004 ∷ 0x0005 ∷ 0x0006 ∷ 0x0007 ∷ 0x0008 ∷ 0x0009 ∷ 0x000a ∷ 0x000b ∷ 0x000c ∷
    0x000d ∷ 0x000e ∷ 0x000f ∷ 0x0010 ∷ 0x0011 ∷ 0x0020 ∷ 0x2ab2 ∷ 0x3127 ∷ 0x3128 ∷ 0x3129 ∷ 0x4752 ∷ 0x7158 ∷ 0xff73db ∷
    0xff02de1a ∷ 0xff03de1a ∷ 0xff04de1b ∷ []

unfoldable pub parameter_names : List ℕ
parameter_names =
    texts (
    "original_destination_connection_id max_idle_timeout stateless_reset_token max_udp_payload_size " ∷
    "initial_max_data initial_max_stream_data_bidi_local initial_max_stream_data_bidi_remote " ∷
    "initial_max_stream_data_uni initial_max_streams_bidi initial_max_streams_uni ack_delay_exponent max_ack_delay " ∷
    "disable_active_migration preferred_address active_connection_id_limit initial_source_connection_id " ∷
    "retry_source_connection_id version_information max_datagram_frame_size grease_quic_bit initial_rtt " ∷
    "google_connection_options user_agent google_version enable_time_stamp_v2_draft version_information_draft " ∷
    "min_ack_delay_draft min_ack_delay_draft min_ack_delay" ∷ [])

unfoldable pub parameter_name : ℕ → ℕ → List ℕ
parameter_name spare v = name_in parameters parameter_names spare v
