-- The lists of the report of a made hello, each as the profile has it. Assumes nothing.
use Prim.Native.Nat.{ℕ, ◌+◌}
use mathlib.Core.Path.{◌≡◌, refl, ap}
use mathlib.Core.Bool.{true}
use mathlib.Core.List.{List, [], ◌∷◌, map}
use mathlib.Core.Option.{some}
use lib.ListN.{length}
use Rattle.wire.specs.Sums.{Permutation, member, distinct}
use Rattle.profiles.specs.Profile.{Profile}
use Rattle.fingerprint_bodies.specs.Body.{Body, kind}
use Rattle.fingerprint_bodies.specs.Entries.{mapped}
use Rattle.fingerprint_lists.specs.Arrays.{placed}
use Rattle.fingerprint.specs.Report.{numbers_in, names_in, gathered, block_place, first_of}
use Rattle.alike.specs.Alike.{alike_id, bytes_of}
use Rattle.laws_read_back.specs.Shown.{profile_ids, carried}
use Rattle.laws_read_back.proofs.Value.{made_body, made_value}
use Rattle.laws_read_back.proofs.ShareLaws.{shares-groups}
use Rattle.laws_read_back.proofs.ParameterLaws.{alike-ids}
use Rattle.laws_read_back.proofs.GatherLaws.{present, carries}

placed-names : (at : ℕ) (names : List (List ℕ)) → map bytes_of (placed at names) ≡ names
unfolding placed
placed-names at [] = refl
placed-names at (n ∷ names) = ap (λ (l : List (List ℕ)). n ∷ l) (placed-names (at + 1 + length n) names)

module _ (p : Profile) (host scid tape : List ℕ) (once : distinct p.extensions_order ≡ true) where
  -- what the extensions of a type hold
  abbrev pub listed : {A : Type 0} → (ℕ → Body → List A) → ℕ → List A
  listed f t = gathered f t (block_place (made_value p host scid tape)) (made_value p host scid tape).extensions

  -- in order
  pub groups-shown : listed numbers_in 0x000a ≡ carried p 0x000a p.supported_groups
  unfolding numbers_in made_body made_value kind
  groups-shown = carries p host scid tape numbers_in 0x000a once (λ x y. x ≡ y) p.supported_groups (λ at q. refl) refl _

  pub shares-shown : listed numbers_in 0x0033 ≡ carried p 0x0033 p.key_share_groups
  unfolding numbers_in made_body made_value kind
  shares-shown = carries p host scid tape numbers_in 0x0033 once (λ x y. x ≡ y) p.key_share_groups (λ at q. shares-groups p.key_share_groups tape q) refl _

  pub algorithms-shown : listed numbers_in 0x000d ≡ carried p 0x000d p.signature_algorithms
  unfolding numbers_in made_body made_value kind
  algorithms-shown = carries p host scid tape numbers_in 0x000d once (λ x y. x ≡ y) p.signature_algorithms (λ at q. refl) refl _

  pub versions-shown : listed numbers_in 0x002b ≡ carried p 0x002b p.supported_versions
  unfolding numbers_in made_body made_value kind
  versions-shown = carries p host scid tape numbers_in 0x002b once (λ x y. x ≡ y) p.supported_versions (λ at q. refl) refl _

  pub protocols-shown : map bytes_of (listed names_in 0x0010) ≡ carried p 0x0010 p.alpn
  unfolding names_in made_body made_value kind
  protocols-shown =
      carries p host scid tape names_in 0x0010 once (λ x y. map bytes_of x ≡ y) p.alpn
      (λ at q. placed-names (at + 2) p.alpn) refl _

  pub name-shown : member 0x0000 p.extensions_order ≡ true → mapped bytes_of (first_of (listed names_in 0x0000)) ≡ some host
  unfolding names_in made_body made_value kind first_of mapped
  name-shown there =
      present p host scid tape names_in 0x0000 once (λ x. mapped bytes_of (first_of x) ≡ some host) (λ at q. refl) _ there

  -- with order put aside
  pub ids-shown : Permutation (carried p 0x0039 (profile_ids p)) (map alike_id (listed numbers_in 0x0039))
  unfolding numbers_in made_body made_value kind
  ids-shown =
      carries p host scid tape numbers_in 0x0039 once (λ x y. Permutation y (map alike_id x)) (profile_ids p)
      (λ at q. alike-ids p scid tape q) (λ f. refl) _
