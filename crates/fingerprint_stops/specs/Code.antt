-- What the code's inner functions say, in terms of the definition. No call of document 01 cites this file.
use Rattle.std.specs.Prelude.{ℕ, zero, suc, ◌≤◌, ◌≡◌, List, [], ◌∷◌, Some, None}
use Rattle.std.specs.Prelude as std
use Rattle.std.proofs.Math.Option.{Option, none, some}
use Rattle.fingerprint_bodies.specs.declared.Prefix.{Prefix}
use Rattle.fingerprint_bodies.specs.Code.{prefix_bytes}
use Rattle.fingerprint_bodies.specs.Entries.{Entry}
use Rattle.fingerprint_bodies.specs.Body.{Parameter}
use Rattle.fingerprint_bodies.specs.Forms.{one_parameter, id_of}

abbrev pub id_then : Option (Entry Parameter) → (List ℕ → List ℕ) → List ℕ
id_then none next = []
id_then (some p) next = id_of p.value ∷ next p.rest

-- the ids of the first n parameters, as many as are whole
unfoldable pub first_ids : ℕ → List ℕ → List ℕ
first_ids zero bs = []
first_ids (suc n) bs = id_then (one_parameter bs) (λ rest. first_ids n rest)

-- the bytes that an entry takes; none where it takes none
abbrev pub SizeAs : std.Option ℕ → ℕ → Type 0
SizeAs (Some n) size = (n ≡ size) × (1 ≤ n)
SizeAs None size = 0 ≡ size

-- the bytes of the length before a list
abbrev pub bytes_before : std.Option Prefix → ℕ
bytes_before (Some p) = prefix_bytes p
bytes_before None = 0
