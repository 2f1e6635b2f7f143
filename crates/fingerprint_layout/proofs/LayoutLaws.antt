-- The layout of a report: its lengths. Assumes nothing.
use Prim.Native.Nat.{ℕ}
use mathlib.Core.Path.{◌≡◌, refl, ◌∙◌}
use mathlib.Core.List.{List, map}
use native.Mathlib.Omega.{arith}
use lib.ListN.{length, length-append, length-map}
use Rattle.fingerprint_lists.specs.declared.Span.{Span}
use Rattle.fingerprint.specs.Code.{type_number}
use Rattle.fingerprint.specs.InRange.{group_number, Counts}
use Rattle.fingerprint.specs.declared.Fingerprint.{Fingerprint}
use Rattle.std.specs.Prelude.{Option, Some, None}
use Rattle.fingerprint_layout.specs.Layout.{littles, ranges, name_numbers, count_numbers, list_numbers, layout}
use Rattle.fingerprint_layout.proofs.PieceLaws.{littles-append, length-littles}
use Rattle.fingerprint_layout.proofs.PadLaws.{length-ranges}

pub length-name : (s : Option Span) → length (name_numbers s) ≡ 3
unfolding name_numbers
length-name (Some s) = refl
length-name None = refl

pub length-counts : (f : Fingerprint) → length (littles 2 (count_numbers f)) ≡ 24
unfolding count_numbers
length-counts f = omega (arith, length-littles 2 (count_numbers f), length-name f.sni)

pub words_long : (vs : List ℕ) → length vs ≡ 64 → length (littles 2 vs) ≡ 128
words_long vs h = omega (arith, length-littles 2 vs)

pub items-long : {A : Type 0} (number : A → ℕ) (xs : List A) → length xs ≡ 64 → length (littles 2 (map number xs)) ≡ 128
items-long number xs h = words_long (map number xs) (length-map xs number ∙ h)

pub ranges-long : (ss : List Span) → length ss ≡ 16 → length (littles 2 (ranges ss)) ≡ 64
ranges-long ss h = omega (arith, length-littles 2 (ranges ss), length-ranges ss)

pub ids-long : (vs : List ℕ) → length vs ≡ 64 → length (littles 8 vs) ≡ 512
ids-long vs h = omega (arith, length-littles 8 vs)

-- the length that include/crustdelta.h names
pub layout-long : (f : Fingerprint) → Counts f → length (layout f) ≡ 1368
unfolding layout list_numbers
layout-long f c =
    let suites = words_long f.cipher_suites c.suites.long in
    let types = items-long type_number f.extensions c.types.long in
    let groups = items-long group_number f.supported_groups c.groups.long in
    let shares = items-long group_number f.key_share_groups c.shares.long in
    let algorithms = words_long f.signature_algorithms c.algorithms.long in
    let versions = words_long f.supported_versions c.versions.long in
    let protocols = ranges-long f.alpn c.protocols.long in
    let ids = ids-long f.transport_param_ids c.ids.long in
    simp (littles-append, length-append) (omega (arith, length-counts f, suites, types, groups, shares, algorithms, versions, protocols, ids))
