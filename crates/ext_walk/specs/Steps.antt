-- The extension walk, over the reader's own `one_extension` and `read_fields`: a step, the walk's first place, and all steps to the end.
use Rattle.std.specs.Prelude.{ℕ, zero, suc, ◌-◌, List, [], ◌∷◌, length, drop, Result, Ok, Err, Some, None}
use Rattle.std.specs.Prelude as std
use Rattle.std.proofs.Math.Option.{Option, none, some}
use Rattle.wire.specs.Answer.{Answer, result, refused, and_then}
use Rattle.wire.specs.Refusals.{question}
use Rattle.wire.specs.declared.refusals.Refusal.{Refusal}
use Rattle.wire.specs.declared.refusals.Refusal.TheVariants as no
use Rattle.fingerprint_bodies.specs.Entries.{Entry}
use Rattle.profiles.specs.declared.ExtType.{ExtType}
use Rattle.fingerprint_lists.specs.Arrays.{ext_type}
use Rattle.fingerprint.specs.Reader.{Raw, one_extension, Fields, read_fields}
use Rattle.ext_walk.specs.declared.Extension.{Extension}

-- ---- One step

-- what stands at a place: an extension, the hello's end, or one that is cut
abbrev pub Reached : Type 0
Reached = Result (std.Option Extension) Refusal

abbrev pub stands : ExtType → ℕ → ℕ → Reached
stands t start end = Ok (Some (record { ext_type = t; start = start; end = end }))

-- "header and body inside the block? 20": the type, and where the body begins and ends in a hello of n bytes, counted from its end
abbrev pub step_to : ℕ → Option (Entry Raw) → Reached
step_to n none = Err no.ExtensionCut
step_to n (some e) = stands (ext_type e.value.type) (n - length e.rest - length e.value.bytes) (n - length e.rest)

-- at the end of a hello of n bytes, or before its last bytes
abbrev pub step_in : ℕ → List ℕ → Reached
step_in n [] = Ok None
step_in n (b ∷ bs) = step_to n (one_extension (b ∷ bs))

unfoldable pub step_at : List ℕ → ℕ → Reached
step_at h at = step_in (length h) (drop at h)

-- ---- The first place

abbrev pub place_in : ℕ → Answer Fields → ℕ
place_in n (result f) = n - length f.block
place_in n (refused k) = n

-- where the extensions begin, if the fields before them pass questions 16 to 19; else the hello's end
unfoldable pub first_extension : List ℕ → ℕ
first_extension h = place_in (length h) (read_fields h)

-- ---- All steps

-- the type that a step found stands before those of the steps after it, which begin at the end of its body
abbrev pub onward : Reached → (ℕ → Answer (List ℕ)) → Answer (List ℕ)
onward (Ok (Some e)) after = and_then (after e.end) (λ ts. result (e.ext_type.0 ∷ ts))
onward (Ok None) after = result []
onward (Err e) after = refused (question e)

-- the types of the extensions from a place on, in at most so many steps; 20 where a step is refused, or the end is not among them
unfoldable pub steps : ℕ → List ℕ → ℕ → Answer (List ℕ)
steps zero h at = refused 20
steps (suc f) h at = onward (step_at h at) (steps f h)

unfoldable pub all_steps : List ℕ → Answer (List ℕ)
all_steps h = steps (length h) h (first_extension h)
