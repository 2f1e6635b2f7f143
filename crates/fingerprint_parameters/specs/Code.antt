-- What the code's functions over transport parameters say, in terms of the forms. No call of document 01 cites this file.
use Rattle.std.specs.Prelude.{ℕ, ◌+◌, ◌%◌, ◌≤◌, ◌≡◌, Bool, true, false, cond, List, map, length, drop, get_or, ltb, Some, None, Result, IfOk}
use Rattle.std.specs.Prelude as std
use Rattle.std.proofs.Math.Option.{Option, none, some}
use Rattle.wire.specs.Front.{front}
use Rattle.wire.specs.Sums.{member}
use Rattle.wire.specs.Refusals.{told_number}
use Rattle.wire.specs.declared.refusals.Refusal.{Refusal}
use Rattle.fingerprint_bodies.specs.Entries.{entry, or_empty, mapped}
use Rattle.fingerprint_bodies.specs.Body as value
use Rattle.fingerprint_bodies.specs.Body.{parameters}
use Rattle.fingerprint_bodies.specs.Code.{asked}
use Rattle.fingerprint_bodies.specs.Forms.{one_parameter, transport_parameters, id_of}
use Rattle.fingerprint_bodies.specs.declared.Entry as code

-- ---- One parameter at the front of some bytes

pub record ParameterFound (bs : List ℕ) (id used : ℕ) : Type 0 where
  pub found : value.Parameter
  pub is : one_parameter bs ≡ some (entry found (drop used bs))
  pub id-is : id_of found ≡ id
  pub some : 1 ≤ used
  pub within : used ≤ length bs

abbrev pub ParameterAs : std.Option (code.Entry ℕ) → List ℕ → Type 0
ParameterAs (Some p) bs = ParameterFound bs p.value p.used
ParameterAs None bs = one_parameter bs ≡ none

-- the same where id and length are one byte each, and so many bytes are left after them
unfoldable pub short_of : ℕ → ℕ → ℕ → std.Option (code.Entry ℕ)
short_of left id size = cond (ltb left size) None (Some (record { value = id; used = 2 + size }))

-- ---- Their ids

-- the ids of all parameters of a body
unfoldable pub ids_of : List ℕ → Option (List ℕ)
ids_of bs = mapped (λ l. map id_of l) (transport_parameters bs)

abbrev pub count_of : Option (List ℕ) → std.Option ℕ
count_of none = None
count_of (some l) = Some (length l)

-- the count; and the ids are written over the front of the array, if it has room for all of them
pub record Kept (ids : Option (List ℕ)) (r : std.Option ℕ) (old new : List ℕ) : Type 0 where
  pub is : r ≡ count_of ids
  pub size : length new ≡ length old
  pub output : (l : List ℕ) → ids ≡ some l → length l ≤ length old → new ≡ front l old

-- the same ids; none where the body is not in its form
abbrev pub ids_in : List ℕ → List ℕ
ids_in bs = map id_of (or_empty (transport_parameters bs))

-- the first "no" of the questions of a body; where there is none, its ids are counted, and written over the front of the array
pub record AskedIds (bs : List ℕ) (r : Result ℕ Refusal) (old new : List ℕ) : Type 0 where
  pub is : told_number r ≡ asked parameters bs
  pub count : IfOk r (λ n. n ≡ length (ids_in bs))
  pub output : IfOk r (λ n. new ≡ front (ids_in bs) old)
  pub size : length new ≡ 64

-- every number of a list has its mark, by its rest modulo 64
abbrev pub Marked : List Bool → List ℕ → Type 0
Marked marks l = (x : ℕ) → member x l ≡ true → get_or marks (x % 64) false ≡ true
