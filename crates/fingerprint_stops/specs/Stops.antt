-- Where the reader stops: the number of its refusal, and the place in the hello at which the question was answered "no". This stands
-- beside the reader (crates/fingerprint/specs/Reader.antt): the numbers are those of the reader's own questions, and each place is that
-- of a field, of an extension, or of an entry of its body.
use Rattle.std.specs.Prelude.{ℕ, zero, suc, ◌+◌, ◌-◌, cond, ◌&&◌, ◌||◌, List, [], ◌∷◌, ◌++◌, map, length, drop, eqb, leb, ltb}
use Rattle.std.proofs.Math.Option.{Option, none, some}
use Rattle.wire.specs.Answer.{Answer, result, refused}
use Rattle.wire.specs.Sums.{member}
use Rattle.wire.specs.Stops.{Stopped, stopped}
use Rattle.fingerprint_bodies.specs.Entries.{Entry, bind, taken, vector_at, at_least, at_most}
use Rattle.fingerprint_bodies.specs.Body.{Kind, Parameter, kind, name, groups, algorithms, protocols, versions, shares, parameters, other}
use Rattle.fingerprint_bodies.specs.Forms.{even_words, one_name, one_share, one_parameter, id_of}
use Rattle.fingerprint_bodies.specs.Code.{asked, is_whole}
use Rattle.fingerprint.specs.ClientHello.{Extension, type_of}
use Rattle.fingerprint.specs.Reader.{Raw, one_extension, extension, Fields, read_fields}

-- ---- Fields before the extensions: 19

-- the place of a field that is not in its form; where it is, what follows decides
abbrev pub or_at : {A : Type 0} → ℕ → Option A → (A → ℕ) → ℕ
or_at place none next = place
or_at place (some a) next = next a

-- "compression (1-byte length, 1 or more)"; after it only the length of the block is left, "which ends the hello"
unfoldable pub compression_stop : ℕ → List ℕ → ℕ
compression_stop at bs = or_at at (bind (vector_at 1 bs) (λ c. bind (at_least 1 c.value) (λ _. some c))) (λ c. at + 1 + length c.value)

-- "cipher suites (2-byte length, even, 2 or more)"
unfoldable pub suites_stop : ℕ → List ℕ → ℕ
suites_stop at bs =
    or_at at (bind (vector_at 2 bs) (λ s. bind (even_words s.value) (λ _. some s)))
    (λ s. compression_stop (at + 2 + length s.value) s.rest)

-- "session id (1-byte length, 0 to 32)"
unfoldable pub session_stop : ℕ → List ℕ → ℕ
session_stop at bs =
    or_at at (bind (vector_at 1 bs) (λ i. bind (at_most 32 i.value) (λ _. some i)))
    (λ i. suites_stop (at + 1 + length i.value) i.rest)

-- "version (unread), 32 random bytes", after the first four bytes
unfoldable pub field_stop : List ℕ → ℕ
field_stop bs = or_at 4 (taken 2 bs) (λ v. or_at 6 (taken 32 v.rest) (λ r. session_stop 38 r.rest))

-- 16 at the first byte too many, 17 at the first byte, 18 at the length
unfoldable pub head_place : List ℕ → ℕ → ℕ
head_place h number = cond (eqb number 16) 16384 (cond (eqb number 17) 0 (cond (eqb number 18) 1 (field_stop (drop 4 h))))

-- ---- Entries of a body

-- how many bytes were read of some
abbrev pub size_of : {A : Type 0} → List ℕ → Option (Entry A) → ℕ
size_of bs none = 0
size_of bs (some e) = length bs - length e.rest

-- a 16-bit number
unfoldable pub word_size : List ℕ → ℕ
word_size bs = cond (leb 2 (length bs)) 2 0

-- how many bytes the entry at the front takes, 0 where no entry is whole; a server name is never passed over, since it is the only one
unfoldable pub entry_size : Kind → List ℕ → ℕ
entry_size name bs = 0
entry_size groups bs = word_size bs
entry_size algorithms bs = word_size bs
entry_size protocols bs = size_of bs (one_name bs)
entry_size versions bs = word_size bs
entry_size shares bs = size_of bs (one_share bs)
entry_size parameters bs = size_of bs (one_parameter bs)
entry_size other bs = 0

-- the place after n entries, or that of the first entry that is not whole
unfoldable pub passed : Kind → ℕ → List ℕ → ℕ
passed k zero bs = 0
passed k (suc n) bs = cond (eqb (entry_size k bs) 0) 0 (entry_size k bs + passed k n (drop (entry_size k bs) bs))

-- the place where a body's list begins, after its length
unfoldable pub list_at : Kind → ℕ
list_at name = 2
list_at groups = 2
list_at algorithms = 2
list_at protocols = 2
list_at versions = 1
list_at shares = 2
list_at parameters = 0
list_at other = 0

-- 21, in a body that is not in its form: the list's length, where it does not reach the body's end or the list is empty; else the first
-- entry that is not whole. Parameters have no length before them.
unfoldable pub broken : Kind → List ℕ → ℕ
broken k bs =
    cond (eqb (list_at k) 0) (passed k (length bs) bs)
    (cond (is_whole (list_at k) bs && ltb (list_at k) (length bs)) (list_at k + passed k (length bs) (drop (list_at k) bs)) 0)

-- "At most 64 entries stand in a list, 16 in ALPN"
unfoldable pub most : Kind → ℕ
most name = 64
most groups = 64
most algorithms = 64
most protocols = 16
most versions = 64
most shares = 64
most parameters = 64
most other = 64

-- 23, in a body whose list is too long: the first entry past the count
unfoldable pub past : Kind → List ℕ → ℕ
past k bs = list_at k + passed k (most k) (drop (list_at k) bs)

-- 22: the first parameter whose id is among those before it
abbrev pub repeated_or : List ℕ → List ℕ → Option (Entry Parameter) → (ℕ → List ℕ → ℕ) → ℕ
repeated_or before bs none next = 0
repeated_or before bs (some p) next =
    cond (member (id_of p.value) before) 0 (length bs - length p.rest + next (id_of p.value) p.rest)

unfoldable pub repeated_from : ℕ → List ℕ → List ℕ → ℕ
repeated_from zero before bs = 0
repeated_from (suc f) before bs = repeated_or before bs (one_parameter bs) (λ id rest. repeated_from f (before ++ (id ∷ [])) rest)

unfoldable pub repeated_at : List ℕ → ℕ
repeated_at bs = repeated_from (length bs) [] bs

-- the place in a body, by the first question of it that is answered "no"
unfoldable pub in_body : Kind → List ℕ → ℕ
in_body k bs = cond (eqb (asked k bs) 21) (broken k bs) (cond (eqb (asked k bs) 22) (repeated_at bs) (past k bs))

-- ---- Extensions

-- the place from the extension's own, of its body's questions: the extension itself where the body is empty or good; else a place in the
-- body, after type and length
unfoldable pub body_place : Kind → List ℕ → ℕ
body_place k bs = cond (eqb (length bs) 0 || eqb (asked k bs) 0) 0 (4 + in_body k bs)

-- "header and body inside the block? 20 Type new ..? 21", and one extension too many, 23: the extension itself; `known` are the types
-- before it
abbrev pub extension_place : List ℕ → Option (Entry Raw) → ℕ
extension_place known none = 0
extension_place known (some e) = cond (member e.value.type known) 0 (body_place (kind e.value.type) e.value.bytes)

abbrev pub stop_or : ℕ → ℕ → Answer (Entry Extension) → (Entry Extension → Option Stopped) → Option Stopped
stop_or at place (refused n) next = some (stopped n (at + place))
stop_or at place (result e) next = next e

-- beside the reader's `walk`: the block's bytes from a place of the hello on, after the extensions that were read
unfoldable pub walk_stops : ℕ → ℕ → List Extension → List ℕ → Option Stopped
walk_stops zero at done bs = none
walk_stops (suc f) at done [] = none
walk_stops (suc f) at done (b ∷ bs) =
    stop_or at (extension_place (map type_of done) (one_extension (b ∷ bs))) (extension done (b ∷ bs))
    (λ e. walk_stops f (at + (length (b ∷ bs) - length e.rest)) (done ++ (e.value ∷ [])) e.rest)

-- ---- The whole hello

-- "Suites at most 64? 23": the first suite too many, after the first 41 bytes, the session id and 64 suites. "Then each extension in turn"
unfoldable pub extensions_stop : List ℕ → Fields → Option Stopped
extensions_stop h f =
    cond (leb (length f.cipher_suites) 64) (walk_stops (length f.block) (length h - length f.block) [] f.block)
    (some (stopped 23 (41 + length f.session_id + 128)))

abbrev pub stops_of : List ℕ → Answer Fields → Option Stopped
stops_of h (refused n) = some (stopped n (head_place h n))
stops_of h (result f) = extensions_stop h f

unfoldable pub stopped_at : List ℕ → Option Stopped
stopped_at h = stops_of h (read_fields h)
