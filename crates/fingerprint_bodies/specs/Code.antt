-- What the code's questions over bodies say, in terms of the forms. No call of document 01 cites this file.
use Rattle.std.specs.Prelude.{ℕ, ◌+◌, ◌-◌, ◌%◌, ◌≤◌, ◌<◌, ◌≡◌, Bool, cond, ◌&&◌, List, length, take, drop, eqb, leb, Some, None}
use Rattle.std.specs.Prelude as std
use Rattle.std.proofs.Math.Option.{Option, none, some}
use Rattle.wire.specs.Numbers.{number}
use Rattle.fingerprint_bodies.specs.Entries.{Entry, entry, or_empty}
use Rattle.fingerprint_bodies.specs.Body.{Share, Body, Kind}
use Rattle.fingerprint_bodies.specs.Forms.{one_name, one_share, body_of, ids_new, within_counts}
use Rattle.fingerprint_bodies.specs.declared.Entry as code
use Rattle.fingerprint_bodies.specs.declared.Prefix.{Prefix}
use Rattle.fingerprint_bodies.specs.declared.Prefix.TheVariants as one

-- ---- The questions of a body, as the number of the first "no"; 0 where there is none (`told_number` of what the code answers)

unfoldable pub formed : {A : Type 0} → Option A → ℕ
formed none = 21
formed (some x) = 0

-- a list of at most m entries
unfoldable pub within : {A : Type 0} → ℕ → Option (List A) → ℕ
within m none = 21
within m (some l) = cond (leb (length l) m) 0 23

-- so many bytes hold 16-bit numbers, from one to 64 of them
unfoldable pub count_asked : ℕ → ℕ
count_asked n = cond (leb 2 n && eqb (n % 2) 0) (cond (leb n 128) 0 23) 21

abbrev pub asked_of : Option Body → ℕ
asked_of none = 21
asked_of (some x) = cond (ids_new x) (cond (within_counts x) 0 23) 22

-- "Body in its form? 21 Parameter ids all new? 22 Lists within their counts? 23"
unfoldable pub asked : Kind → List ℕ → ℕ
asked k bs = asked_of (body_of k bs)

-- the bytes that the length before a list takes
abbrev pub prefix_bytes : Prefix → ℕ
prefix_bytes one.OneByte = 1
prefix_bytes one.TwoBytes = 2

-- the count in so many bytes at the front reaches exactly the end
unfoldable pub is_whole : ℕ → List ℕ → Bool
is_whole width bs = leb width (length bs) && eqb (number 256 (take width bs)) (length bs - width)

-- a list that was found, of at most m entries
pub record Found {A : Type 0} (m : ℕ) (x : Option (List A)) : Type 0 where
  pub there : x ≡ some (or_empty x)
  pub few : length (or_empty x) ≤ m

-- a body that was found good, or that of an extension that is not there
abbrev pub Good : {A : Type 0} → ℕ → (List ℕ → Option (List A)) → List ℕ → Type 0
Good m read bs = 0 < length bs → within m (read bs) ≡ 0

-- ---- One entry at the front of some bytes

pub record NameFound (bs : List ℕ) (n : ℕ) : Type 0 where
  pub is : one_name bs ≡ some (entry (take n (drop 1 bs)) (drop (1 + n) bs))
  pub within : 1 + n ≤ length bs

-- what the code finds: the length of the name
abbrev pub NameAs : std.Option ℕ → List ℕ → Type 0
NameAs (Some n) bs = NameFound bs n
NameAs None bs = one_name bs ≡ none

-- the share itself has the key too
pub record ShareFound (bs : List ℕ) (group used : ℕ) : Type 0 where
  pub found : Share
  pub is : one_share bs ≡ some (entry found (drop used bs))
  pub group-is : found.group ≡ group
  pub some : 1 ≤ used
  pub within : used ≤ length bs

abbrev pub ShareAs : std.Option (code.Entry ℕ) → List ℕ → Type 0
ShareAs (Some s) bs = ShareFound bs s.value s.used
ShareAs None bs = one_share bs ≡ none

-- an entry of some form: its value, and how many bytes it takes
pub record EntryFound {A : Type 0} (form : List ℕ → Option (Entry A)) (bs : List ℕ) (v : A) (used : ℕ) : Type 0 where
  pub is : form bs ≡ some (entry v (drop used bs))
  pub some : 1 ≤ used
  pub within : used ≤ length bs

abbrev pub EntryAs : {A : Type 0} → std.Option (code.Entry A) → (List ℕ → Option (Entry A)) → List ℕ → Type 0
EntryAs (Some f) form bs = EntryFound form bs f.value f.used
EntryAs None form bs = form bs ≡ none

-- a step from one rest of a list to the next: the entry at the front, or none where no whole one stands there
abbrev pub Gives : {A : Type 0} → (List ℕ → Option (Entry A)) → List ℕ → std.Option A → List ℕ → Type 0
Gives form old (Some v) new = (form old ≡ some (entry v new)) × (length new < length old)
Gives form old None new = (form old ≡ none) × (new ≡ old)
