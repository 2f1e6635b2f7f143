-- Each list of a report stands where include/crustdelta.h says. Assumes nothing.
use Prim.Native.Nat.{ℕ, ◌+◌}
use mathlib.Core.Path.{◌≡◌, refl, sym, ◌∙◌}
use mathlib.Core.List.{List, ◌++◌, map, append_assoc}
use lib.ListN.{length, take, drop}
use lib.Seq.{take_at, drop_at, drop-drop}
use Rattle.wire.specs.Answer.{result}
use Rattle.wire.specs.Numbers.{Bytes}
use Rattle.fingerprint.specs.Code.{type_number}
use Rattle.fingerprint.specs.InRange.{group_number, Counts}
use Rattle.fingerprint.specs.ClientHello.{ClientHello}
use Rattle.fingerprint.specs.Reader.{read}
use Rattle.fingerprint.specs.Report.{report, parsed_of}
use Rattle.fingerprint.specs.declared.Fingerprint.{Fingerprint}
use Rattle.fingerprint.proofs.ShownLaws.{in-range, shown-sane}
use Rattle.fingerprint_layout.specs.Layout.{littles, ranges, count_numbers, list_numbers, layout, reported}
use Rattle.fingerprint_layout.proofs.PieceLaws.{littles-append}
use Rattle.fingerprint_layout.proofs.LayoutLaws.{length-counts, words_long, items-long, ranges-long, layout-long}

-- these stand in the bytes from a place on
abbrev pub StandsAt : ℕ → List ℕ → List ℕ → Type 0
StandsAt at piece bytes = take (length piece) (drop at bytes) ≡ piece

pub record Offsets (f : Fingerprint) : Type 0 where
  pub counts : StandsAt 0 (littles 2 (count_numbers f)) (layout f)
  pub suites : StandsAt 24 (littles 2 f.cipher_suites) (layout f)
  pub types : StandsAt 152 (littles 2 (map type_number f.extensions)) (layout f)
  pub groups : StandsAt 280 (littles 2 (map group_number f.supported_groups)) (layout f)
  pub shares : StandsAt 408 (littles 2 (map group_number f.key_share_groups)) (layout f)
  pub algorithms : StandsAt 536 (littles 2 f.signature_algorithms) (layout f)
  pub versions : StandsAt 664 (littles 2 f.supported_versions) (layout f)
  pub protocols : StandsAt 792 (littles 2 (ranges f.alpn)) (layout f)
  pub ids : drop 856 (layout f) ≡ littles 8 f.transport_param_ids

-- the next piece begins where the last one ends
module _ (bytes : List ℕ) (at : ℕ) (piece rest : List ℕ) (e : drop at bytes ≡ piece ++ rest) where
  stands : StandsAt at piece bytes
  stands = rw e (take_at piece rest (length piece) refl)

  next : {n : ℕ} → length piece ≡ n → drop (at + n) bytes ≡ rest
  next {n} h = sym (drop-drop n at bytes) ∙ rw e (drop_at piece rest n h)

module _ (f : Fingerprint) (c : Counts f) where
  pub offsets : Offsets f
  unfolding layout list_numbers
  offsets =
      let counts : List ℕ = littles 2 (count_numbers f) in
      let suites : List ℕ = littles 2 f.cipher_suites in
      let types : List ℕ = littles 2 (map type_number f.extensions) in
      let groups : List ℕ = littles 2 (map group_number f.supported_groups) in
      let shares : List ℕ = littles 2 (map group_number f.key_share_groups) in
      let algorithms : List ℕ = littles 2 f.signature_algorithms in
      let versions : List ℕ = littles 2 f.supported_versions in
      let protocols : List ℕ = littles 2 (ranges f.alpn) in
      let ids : List ℕ = littles 8 f.transport_param_ids in
      let lists : List ℕ = groups ++ (shares ++ (algorithms ++ (versions ++ (protocols ++ ids)))) in
      let at0 : drop 0 (layout f) ≡ counts ++ (suites ++ (types ++ lists)) = simp (littles-append, append_assoc) in
      let at24 = next (layout f) 0 counts _ at0 (length-counts f) in
      let at152 = next (layout f) 24 suites _ at24 (words_long f.cipher_suites c.suites.long) in
      let at280 = next (layout f) 152 types _ at152 (items-long type_number f.extensions c.types.long) in
      let at408 = next (layout f) 280 groups _ at280 (items-long group_number f.supported_groups c.groups.long) in
      let at536 = next (layout f) 408 shares _ at408 (items-long group_number f.key_share_groups c.shares.long) in
      let at664 = next (layout f) 536 algorithms _ at536 (words_long f.signature_algorithms c.algorithms.long) in
      let at792 = next (layout f) 664 versions _ at664 (words_long f.supported_versions c.versions.long) in
      record {
        counts = stands (layout f) 0 counts _ at0;
        suites = stands (layout f) 24 suites _ at24;
        types = stands (layout f) 152 types _ at152;
        groups = stands (layout f) 280 groups _ at280;
        shares = stands (layout f) 408 shares _ at408;
        algorithms = stands (layout f) 536 algorithms _ at536;
        versions = stands (layout f) 664 versions _ at664;
        protocols = stands (layout f) 792 protocols _ at792;
        ids = next (layout f) 792 protocols _ at792 (ranges-long f.alpn c.protocols.long);
      }

-- of every hello that is accepted
module _ (h : List ℕ) (b : Bytes h) (v : ClientHello) (e : read h ≡ result v) where
  accepted-counts : Counts (reported (read h))
  unfolding parsed_of
  accepted-counts = rw e (shown-sane h (report v) (in-range h b v e)).counts

  pub accepted-long : length (layout (reported (read h))) ≡ 1368
  accepted-long = layout-long (reported (read h)) accepted-counts

  pub accepted-offsets : Offsets (reported (read h))
  accepted-offsets = offsets (reported (read h)) accepted-counts
