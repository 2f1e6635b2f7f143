-- What is written of the code's report is the text of the report that it shows. Assumes nothing.
use Prim.Native.Nat.{ℕ, ◌≤◌}
use mathlib.Core.Path.{◌≡◌, refl, ap, ap₂, ◌∙◌}
use mathlib.Core.List.{List, [], ◌∷◌, ◌++◌, map}
use mathlib.Core.Option.{Option, none, some}
use lib.ListN.{length, take, length-map}
use Rattle.fingerprint_bodies.specs.Conditions.{All}
use Rattle.fingerprint_lists.specs.Arrays.{ext_type, span, padded, Part, span_of, types_of}
use Rattle.fingerprint.specs.Report.{Report, sni_of, shown, Lies}
use Rattle.fingerprint.specs.InRange.{Filled, SniLies, InRange}
use Rattle.fingerprint.proofs.ShownLaws.{take-padded, filled, types-shown, groups-shown, words-shown}
use Rattle.reports.specs.Lines.{part_parts, each, maybe_name, report_text, set_text}
use Rattle.reports.specs.Code.{span_parts, sni_parts, report_parts, set_parts}

-- ---- names

span-shown : (h : List ℕ) (p : Part) → Lies h p → span_parts h (span_of p) ≡ part_parts p
span-shown h p s = rw s.is

spans-shown : (h : List ℕ) (l : List Part) → All (Lies h) l → each (span_parts h) (map span_of l) ≡ each part_parts l
unfolding each
spans-shown h [] s = refl
spans-shown h (p ∷ l) s = ap₂ ◌++◌ (span-shown h p s.0) (spans-shown h l s.1)

protocols-shown : (h : List ℕ) (l : List Part) → All (Lies h) l
    → each (span_parts h) (take (length l) (padded 16 (span 0 0) (map span_of l))) ≡ each part_parts l
protocols-shown h l s =
    ap (each (span_parts h)) (take-padded 16 (span 0 0) (map span_of l) (length l) (length-map l span_of)) ∙ spans-shown h l s

sni-shown : (h : List ℕ) (o : Option Part) → SniLies h o → sni_parts h (sni_of o) ≡ maybe_name o
unfolding sni_of
sni-shown h none s = refl
sni-shown h (some p) s = span-shown h p s

-- ---- the report

pub parts-shown : (h : List ℕ) (r : Report) → InRange h r → report_parts h (shown r) ≡ report_text r
unfolding report_parts report_text shown
parts-shown h r i =
    rw (words-shown r.cipher_suites, types-shown r.extensions, groups-shown r.supported_groups, groups-shown r.key_share_groups, words-shown r.signature_algorithms, words-shown r.supported_versions, protocols-shown h r.alpn i.protocols-lie, sni-shown h r.sni i.sni-lies, words-shown r.transport_param_ids)

-- ---- a set of types

pub set-shown : (l : List ℕ) → set_parts (types_of l) ≡ set_text l
unfolding types_of
set-shown l = ap set_text (types-shown l)

pub set-filled : (l : List ℕ) → length l ≤ 64 → Filled 64 (types_of l).items (types_of l).count
unfolding types_of
set-filled l h = filled 64 (ext_type 0) (map ext_type l) (length l) (length-map l ext_type) h
