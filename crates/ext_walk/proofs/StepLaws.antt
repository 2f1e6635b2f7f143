-- A step by what stands at its place, and the place of the first extension. Assumes nothing.
use Prim.Native.Nat.{ℕ, suc, ◌-◌, ◌≤◌, ◌<◌}
use mathlib.Core.Path.{◌≡◌}
use mathlib.Core.List.{List, ◌∷◌}
use mathlib.Core.Option.{none}
use native.Mathlib.Nat.{le_refl}
use native.Mathlib.Omega.{arith}
use lib.ListN.{length, drop, get_or, length-drop, drop_of_length-le}
use lib.Seq.{drop-cons}
use Rattle.wire.specs.Answer.{result, refused}
use Rattle.wire.proofs.ListLaws.{length_part}
use Rattle.fingerprint_lists.specs.Arrays.{ext_type}
use Rattle.fingerprint.specs.Reader.{one_extension, Fields, read_fields}
use Rattle.fingerprint.specs.Code.{HeaderFound}
use Rattle.std.specs.Prelude.{Ok, Err, None}
use Rattle.wire.specs.declared.refusals.Refusal.TheVariants as no
use Rattle.ext_walk.specs.Steps.{stands, step_to, step_at, first_extension}

module _ (h : List ℕ) (at : ℕ) where
  pub step_end : length h ≤ at → step_at h at ≡ Ok None
  unfolding step_at
  step_end l = rw (drop_of_length-le h {i = at} l)

  -- before the end: the reader's own piece decides
  step-here : at < length h → step_at h at ≡ step_to (length h) (one_extension (drop at h))
  unfolding step_at
  step-here l =
      let here : drop at h ≡ get_or h at 0 ∷ drop (suc at) h = drop-cons h at 0 l in
      rw here

  pub step_cut : at < length h → one_extension (drop at h) ≡ none → step_at h at ≡ Err no.ExtensionCut
  step_cut l e = rw (step-here l, e)

  pub step-found : (t start end : ℕ) → HeaderFound h at t start end → step_at h at ≡ stands (ext_type t) start end
  step-found t start end f =
      let last : length h - (length h - end) ≡ end = omega (arith, f.inside) in
      let first : end - (end - start) ≡ start = omega (arith, f.forward) in
      rw (step-here (omega (arith, f.after-header, f.forward, f.inside)), f.is, length-drop end h, length_part h start end f.forward f.inside, last, first)

module _ (h : List ℕ) where
  pub first-refused : (n : ℕ) → read_fields h ≡ refused n → first_extension h ≡ length h
  unfolding first_extension
  first-refused n e = rw e

  -- such a walk is at its end
  pub refused_end : (n : ℕ) → read_fields h ≡ refused n → step_at h (first_extension h) ≡ Ok None
  refused_end n e = rw (first-refused n e) (step_end h (length h) (le_refl (length h)))

  pub first_found : (f : Fields) (block : ℕ) → block ≤ length h → read_fields h ≡ result f → f.block ≡ drop block h → first_extension h ≡ block
  unfolding first_extension
  first_found f block l e b = rw (e, b, length-drop block h) (omega (arith, l))
