-- What is compared of two reports as the code hands them out is what is compared of the reports that they show. Assumes nothing.
use Prim.Native.Nat.{ℕ}
use mathlib.Core.Path.{◌≡◌, refl, sym, ap, ap₂, ◌∙◌}
use mathlib.Core.Bool.{Bool, false, ◌&&◌}
use mathlib.Core.List.{List, [], ◌∷◌, map}
use mathlib.Core.Option.{Option, none, some}
use lib.ListN.{length, take, length-map}
use lib.Dec.{eqb}
use Rattle.wire.specs.Answer.{Answer, result, refused}
use Rattle.fingerprint_bodies.specs.Entries.{mapped}
use Rattle.fingerprint_bodies.specs.Conditions.{All}
use Rattle.fingerprint_lists.specs.Arrays.{span, padded, Part, span_of}
use Rattle.fingerprint.specs.ClientHello.{ClientHello}
use Rattle.fingerprint.specs.Reader.{read}
use Rattle.fingerprint.specs.Report.{Report, report, sni_of, shown, Lies}
use Rattle.fingerprint.specs.InRange.{SniLies, InRange}
use Rattle.fingerprint.specs.declared.Fingerprint.{Fingerprint}
use Rattle.fingerprint.proofs.ShownLaws.{take-padded, types-shown, groups-shown, words-shown, Parsed}
use Rattle.alike.specs.Alike.{bytes_of, likeness, same_numbers, same_list, same_name, same_lists, agree, alike}
use Rattle.alike.specs.Code.{name_of, names_of, same_lists_of, same_counts_of}

-- ---- names

names-shown : (h : List ℕ) (l : List Part) → All (Lies h) l → names_of h (map span_of l) ≡ map bytes_of l
names-shown h [] s = refl
names-shown h (p ∷ l) s = ap₂ ◌∷◌ s.0.is (names-shown h l s.1)

protocols-shown : (h : List ℕ) (l : List Part) → All (Lies h) l → names_of h (take (length l) (padded 16 (span 0 0) (map span_of l))) ≡ map bytes_of l
protocols-shown h l s = ap (names_of h) (take-padded 16 (span 0 0) (map span_of l) (length l) (length-map l span_of)) ∙ names-shown h l s

sni-shown : (h : List ℕ) (o : Option Part) → SniLies h o → name_of h (sni_of o) ≡ mapped bytes_of o
unfolding sni_of mapped
sni-shown h none s = refl
sni-shown h (some p) s = ap some s.is

-- ---- two reports

-- the code's tests, in their order
unfoldable pub agree_of : List ℕ → Fingerprint → List ℕ → Fingerprint → Bool
agree_of a x b y =
    eqb x.legacy_session_id_len y.legacy_session_id_len
    && (same_name (name_of a x.sni) (name_of b y.sni)
    && (same_lists_of x y
    && (same_list same_numbers (names_of a (take x.alpn_count x.alpn)) (names_of b (take y.alpn_count y.alpn))
    && same_counts_of x y)))

lists-shown : (r s : Report) → same_lists_of (shown r) (shown s) ≡ same_lists (likeness r) (likeness s)
unfolding same_lists_of same_lists likeness shown
lists-shown r s =
    rw (
      words-shown r.cipher_suites,
      words-shown s.cipher_suites,
      groups-shown r.supported_groups,
      groups-shown s.supported_groups,
      groups-shown r.key_share_groups,
      groups-shown s.key_share_groups,
      words-shown r.signature_algorithms,
      words-shown s.signature_algorithms,
      words-shown r.supported_versions,
      words-shown s.supported_versions,
    )

agree-shown : (a b : List ℕ) (r s : Report) → InRange a r → InRange b s → agree_of a (shown r) b (shown s) ≡ agree (likeness r) (likeness s)
unfolding agree_of same_counts_of agree likeness shown
agree-shown a b r s i j =
    rw (
      sni-shown a r.sni i.sni-lies,
      sni-shown b s.sni j.sni-lies,
      lists-shown r s,
      protocols-shown a r.alpn i.protocols-lie,
      protocols-shown b s.alpn j.protocols-lie,
      types-shown r.extensions,
      types-shown s.extensions,
      words-shown r.transport_param_ids,
      words-shown s.transport_param_ids,
    )

-- ---- two hellos

module _ (a b : List ℕ) where
  pub alike-parsed : (x y : Fingerprint) → Parsed a x → Parsed b y → alike (read a) (read b) ≡ agree_of a x b y
  unfolding alike
  alike-parsed x y p q =
      rw (p.accepted, q.accepted, p.shows, q.shows)
      (sym (agree-shown a b (report p.value) (report q.value) p.in-range q.in-range))

  pub first-refused : (n : ℕ) → read a ≡ refused n → false ≡ alike (read a) (read b)
  unfolding alike
  first-refused n e = rw e

  pub second-refused : (n : ℕ) → read b ≡ refused n → false ≡ alike (read a) (read b)
  unfolding alike
  second-refused n e = rw e (go (read a))
    where
      go : (x : Answer ClientHello) → false ≡ alike x (refused n)
      go (result v) = refl
      go (refused m) = refl
