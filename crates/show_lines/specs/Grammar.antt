-- What may stand in a ClientHello, one row for each kind of line (RFC 8446, section 4.1.2, and document 01, "Reading").
use Rattle.std.specs.Prelude.{ℕ, ◌+◌, ◌*◌, cond, List, [], ◌∷◌, get_or, ltb}

-- The columns: bytes of a line's front, 0 where the line takes all that is left of its part; how many of these, the last, are a length;
-- whether what is so long stands on the line itself (1) or on lines of its own (2); the part in which the line stands (0 the hello, 1
-- the suites, 2 the block, 3 a body, 4 its list); the kind of line inside; the kind that follows; the registry that names its number.
unfoldable pub grammar : List (List ℕ)
grammar =
    (1 ∷ 0 ∷ 0 ∷ 0 ∷ 0 ∷ 1 ∷ 0 ∷ []) ∷  -- 0 msg_type
    (3 ∷ 3 ∷ 0 ∷ 0 ∷ 0 ∷ 2 ∷ 0 ∷ []) ∷  -- 1 length
    (2 ∷ 0 ∷ 0 ∷ 0 ∷ 0 ∷ 3 ∷ 5 ∷ []) ∷  -- 2 legacy_version
    (32 ∷ 0 ∷ 0 ∷ 0 ∷ 0 ∷ 4 ∷ 0 ∷ []) ∷  -- 3 random
    (1 ∷ 1 ∷ 1 ∷ 0 ∷ 0 ∷ 5 ∷ 0 ∷ []) ∷  -- 4 legacy_session_id
    (2 ∷ 2 ∷ 2 ∷ 0 ∷ 6 ∷ 7 ∷ 0 ∷ []) ∷  -- 5 cipher_suites
    (2 ∷ 0 ∷ 0 ∷ 1 ∷ 0 ∷ 6 ∷ 1 ∷ []) ∷  -- 6 suite
    (1 ∷ 1 ∷ 1 ∷ 0 ∷ 0 ∷ 8 ∷ 0 ∷ []) ∷  -- 7 legacy_compression_methods
    (2 ∷ 2 ∷ 2 ∷ 0 ∷ 9 ∷ 25 ∷ 0 ∷ []) ∷  -- 8 extension_block
    (4 ∷ 2 ∷ 2 ∷ 2 ∷ 23 ∷ 9 ∷ 4 ∷ []) ∷  -- 9 extension; inside is what its type says
    (2 ∷ 2 ∷ 2 ∷ 3 ∷ 11 ∷ 24 ∷ 0 ∷ []) ∷  -- 10 server_name_list
    (3 ∷ 2 ∷ 1 ∷ 4 ∷ 0 ∷ 11 ∷ 0 ∷ []) ∷  -- 11 server_name
    (2 ∷ 2 ∷ 2 ∷ 3 ∷ 13 ∷ 24 ∷ 0 ∷ []) ∷  -- 12 named_group_list
    (2 ∷ 0 ∷ 0 ∷ 4 ∷ 0 ∷ 13 ∷ 2 ∷ []) ∷  -- 13 group
    (2 ∷ 2 ∷ 2 ∷ 3 ∷ 15 ∷ 24 ∷ 0 ∷ []) ∷  -- 14 supported_signature_algorithms
    (2 ∷ 0 ∷ 0 ∷ 4 ∷ 0 ∷ 15 ∷ 3 ∷ []) ∷  -- 15 algorithm
    (2 ∷ 2 ∷ 2 ∷ 3 ∷ 17 ∷ 24 ∷ 0 ∷ []) ∷  -- 16 protocol_name_list
    (1 ∷ 1 ∷ 1 ∷ 4 ∷ 0 ∷ 17 ∷ 0 ∷ []) ∷  -- 17 protocol_name
    (1 ∷ 1 ∷ 2 ∷ 3 ∷ 19 ∷ 24 ∷ 0 ∷ []) ∷  -- 18 version_list
    (2 ∷ 0 ∷ 0 ∷ 4 ∷ 0 ∷ 19 ∷ 5 ∷ []) ∷  -- 19 version
    (2 ∷ 2 ∷ 2 ∷ 3 ∷ 21 ∷ 24 ∷ 0 ∷ []) ∷  -- 20 client_shares
    (4 ∷ 2 ∷ 1 ∷ 4 ∷ 0 ∷ 21 ∷ 2 ∷ []) ∷  -- 21 key_share
    (0 ∷ 0 ∷ 1 ∷ 3 ∷ 0 ∷ 22 ∷ 6 ∷ []) ∷  -- 22 parameter; its front is two varints
    (0 ∷ 0 ∷ 0 ∷ 3 ∷ 0 ∷ 24 ∷ 0 ∷ []) ∷  -- 23 body that is not read
    (0 ∷ 0 ∷ 0 ∷ 3 ∷ 0 ∷ 24 ∷ 0 ∷ []) ∷  -- 24 rest of a body
    (0 ∷ 0 ∷ 0 ∷ 0 ∷ 0 ∷ 25 ∷ 0 ∷ []) ∷  -- 25 rest of the hello
    (0 ∷ 0 ∷ 0 ∷ 0 ∷ 0 ∷ 26 ∷ 0 ∷ []) ∷  -- 26 end
    []

unfoldable pub column : ℕ → ℕ → ℕ
column what k = get_or (get_or grammar what []) k 0

-- the kind of line inside an extension, by the place of its type among those that are read
unfoldable pub body_line : ℕ → ℕ
body_line place = cond (ltb place 7) (10 + 2 * place) 23
