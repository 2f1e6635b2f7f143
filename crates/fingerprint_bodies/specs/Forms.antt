-- The bodies of extensions, read (document 01, "Reading"): what a body holds, or none where it is not in its form.
use Rattle.std.specs.Prelude.{ℕ, ◌%◌, Bool, true, cond, ◌&&◌, List, [], ◌∷◌, map, length, drop, eqb, leb}
use Rattle.std.proofs.Math.Option.{Option, none, some}
use Rattle.wire.specs.Answer.{Answer, result, refused}
use Rattle.wire.specs.Numbers.{number}
use Rattle.wire.specs.Sums.{distinct}
use Rattle.varint.specs.Varint.{class_at, read_of}
use Rattle.varint.specs.declared.Varint.{Varint}
use Rattle.fingerprint_bodies.specs.Entries.{Entry, entry, bind, mapped, taken, number_at, vector_at, whole, at_least, all_entries}
use Rattle.fingerprint_bodies.specs.Body as b
use Rattle.fingerprint_bodies.specs.Body.{Share, Number, Parameter, Body, Kind, name, groups, algorithms, protocols, versions, shares, parameters, other}

-- ---- 000a, 000d: "2-byte length, even, 2 or more". 002b: "the same with a 1-byte length"

-- the 16-bit numbers that bytes hold
unfoldable pub words_in : List ℕ → List ℕ
words_in [] = []
words_in (a ∷ []) = []
words_in (a ∷ b ∷ bs) = number 256 (a ∷ b ∷ []) ∷ words_in bs

unfoldable pub even_words : List ℕ → Option (List ℕ)
even_words bs = cond (leb 2 (length bs) && eqb (length bs % 2) 0) (some (words_in bs)) none

unfoldable pub word_list : ℕ → List ℕ → Option (List ℕ)
word_list width bs = bind (whole width bs) even_words

-- ---- 0000: "2-byte list length, one entry: type 0, 2-byte length, name of 1 byte or more"

unfoldable pub one_entry : List ℕ → Option (List ℕ)
one_entry bs = bind (number_at 1 bs) (λ t. cond (eqb t.value 0) (bind (whole 2 t.rest) (λ n. at_least 1 n)) none)

unfoldable pub server_name : List ℕ → Option (List ℕ)
server_name bs = bind (whole 2 bs) one_entry

-- ---- 0010: "2-byte length, one or more names, each a 1-byte length of at least 1"

unfoldable pub one_name : List ℕ → Option (Entry (List ℕ))
one_name bs = bind (vector_at 1 bs) (λ n. cond (leb 1 (length n.value)) (some n) none)

unfoldable pub some_names : List ℕ → Option (List (List ℕ))
some_names bs = bind (all_entries one_name bs) (λ ns. at_least 1 ns)

unfoldable pub protocol_names : List ℕ → Option (List (List ℕ))
protocol_names bs = bind (whole 2 bs) some_names

-- ---- 0033: "2-byte length, entries of group, 2-byte length of at least 1, key; may be empty; equal groups are not looked for"

unfoldable pub one_share : List ℕ → Option (Entry Share)
one_share bs =
    bind (number_at 2 bs) (λ g.
    bind (vector_at 2 g.rest) (λ k.
    cond (leb 1 (length k.value)) (some (entry (record { group = g.value; key = k.value }) k.rest)) none))

unfoldable pub key_shares : List ℕ → Option (List Share)
key_shares bs = bind (whole 2 bs) (λ l. all_entries one_share l)

-- ---- 0039: "varint id, varint length, value, to the end; may be empty"

abbrev pub varint_found : List ℕ → Answer Varint → Option (Entry Number)
varint_found bs (result x) = some (entry (record { class = class_at bs; number = x.value }) (drop x.width bs))
varint_found bs (refused n) = none

unfoldable pub varint_at : List ℕ → Option (Entry Number)
varint_at bs = varint_found bs (read_of bs)

unfoldable pub one_parameter : List ℕ → Option (Entry Parameter)
one_parameter bs =
    bind (varint_at bs) (λ i.
    bind (varint_at i.rest) (λ n.
    bind (taken n.value.number n.rest) (λ v.
    some (entry (record { id = i.value; length_class = n.value.class; value = v.value }) v.rest))))

unfoldable pub transport_parameters : List ℕ → Option (List Parameter)
transport_parameters bs = all_entries one_parameter bs

-- ---- The body of an extension; "others: unread"

unfoldable pub body_of : Kind → List ℕ → Option Body
body_of name bs = mapped b.server-name (server_name bs)
body_of groups bs = mapped b.supported-groups (word_list 2 bs)
body_of algorithms bs = mapped b.signature-algorithms (word_list 2 bs)
body_of protocols bs = mapped b.application-protocols (protocol_names bs)
body_of versions bs = mapped b.supported-versions (word_list 1 bs)
body_of shares bs = mapped b.key-shares (key_shares bs)
body_of parameters bs = mapped b.transport-parameters (transport_parameters bs)
body_of other bs = some (b.unread bs)

-- ---- The questions of a body that is in its form

abbrev pub group_of : Share → ℕ
group_of s = s.group

abbrev pub id_of : Parameter → ℕ
id_of p = p.id.number

-- "Parameter ids all new? 22"
unfoldable pub ids_new : Body → Bool
ids_new (b.server-name n) = true
ids_new (b.supported-groups l) = true
ids_new (b.signature-algorithms l) = true
ids_new (b.application-protocols l) = true
ids_new (b.supported-versions l) = true
ids_new (b.key-shares l) = true
ids_new (b.transport-parameters l) = distinct (map id_of l)
ids_new (b.unread bs) = true

-- "Lists within their counts? 23": "At most 64 entries stand in a list, 16 in ALPN"
unfoldable pub within_counts : Body → Bool
within_counts (b.server-name n) = true
within_counts (b.supported-groups l) = leb (length l) 64
within_counts (b.signature-algorithms l) = leb (length l) 64
within_counts (b.application-protocols l) = leb (length l) 16
within_counts (b.supported-versions l) = leb (length l) 64
within_counts (b.key-shares l) = leb (length l) 64
within_counts (b.transport-parameters l) = leb (length l) 64
within_counts (b.unread bs) = true
