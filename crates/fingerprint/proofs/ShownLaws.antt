-- The report as the code hands it out, of a hello that is accepted: its arrays hold the lists, within their counts, and its names lie inside
-- the hello. Assumes nothing.
use Prim.Native.Nat.{ℕ, zero, suc, ◌-◌, ◌≤◌, ◌<◌}
use mathlib.Core.Path.{◌≡◌, refl, sym, ap, ◌∙◌}
use mathlib.Core.List.{List, [], ◌∷◌, map, map-map, map-id}
use mathlib.Core.Option.{Option, none, some}
use native.Mathlib.Nat.{not-suc-le-zero, le_of_suc-le-suc}
use native.Mathlib.Omega.{arith}
use lib.ListN.{length, take, get_or, replicate, length-append, length-map, length-replicate, get_or-append}
use lib.Seq.{take_at, get_or-take, length-take-le}
use Rattle.wire.specs.Answer.{Answer, result, refused}
use Rattle.wire.specs.Numbers.{Bytes}
use Rattle.wire.proofs.AnswerLaws.{apart, same-result}
use Rattle.fingerprint_bodies.specs.Conditions.{All}
use Rattle.fingerprint_lists.specs.Arrays.{ext_type, group, span, padded, Part, span_of}
use Rattle.fingerprint_lists.specs.declared.Span.{Span}
use Rattle.fingerprint.specs.ClientHello.{ClientHello, encode, WellFormed}
use Rattle.fingerprint.specs.Reader.{read}
use Rattle.fingerprint.specs.Report.{Report, report, sni_of, shown, Lies, parsed_of}
use Rattle.fingerprint.specs.Code.{type_number}
use Rattle.fingerprint.specs.InRange.{group_number, type_numbers, group_numbers, Filled, SniInside, SpansInside, Sane, SniLies, InRange}
use Rattle.fingerprint.specs.declared.Fingerprint.{Fingerprint}
use Rattle.fingerprint.proofs.WellFormed.{encoded-read}
use Rattle.fingerprint.proofs.Ranges.{names-formed}
use Rattle.fingerprint.proofs.CountLaws.{within-counts}

-- ---- lists in arrays

module _ {A : Type 0} (m : ℕ) (z : A) where
  -- the first places of the array hold the list
  pub take-padded : (l : List A) (n : ℕ) → length l ≡ n → take n (padded m z l) ≡ l
  unfolding padded
  take-padded l n e = take_at l (replicate (m - length l) z) n e

  pub filled : (l : List A) (n : ℕ) → length l ≡ n → n ≤ m → Filled m (padded m z l) n
  unfolding padded
  filled l n e h =
      record { long = rw (length-append, length-replicate) (omega arith); few = h }

  at-padded : (l : List A) (i : ℕ) → i < length l → get_or (padded m z l) i z ≡ get_or l i z
  unfolding padded
  at-padded l i h = get_or-append l (replicate (m - length l) z) z i h

pub types-shown : (l : List ℕ) → type_numbers (padded 64 (ext_type 0) (map ext_type l)) (length l) ≡ l
types-shown l =
    ap (map type_number) (take-padded 64 (ext_type 0) (map ext_type l) (length l) (length-map l ext_type))
    ∙ map-map type_number ext_type l
    ∙ map-id l

pub groups-shown : (l : List ℕ) → group_numbers (padded 64 (group 0) (map group l)) (length l) ≡ l
groups-shown l =
    ap (map group_number) (take-padded 64 (group 0) (map group l) (length l) (length-map l group))
    ∙ map-map group_number group l
    ∙ map-id l

pub words-shown : (l : List ℕ) → take (length l) (padded 64 0 l) ≡ l
words-shown l = take-padded 64 0 l (length l) refl

-- ---- the names

stands-inside : (h : List ℕ) (l : List Part) → All (Lies h) l → SpansInside h (map span_of l) (length l)
stands-inside h [] s i k = absurd (not-suc-le-zero k)
stands-inside h (p ∷ l) s zero k = s.0.inside
stands-inside h (p ∷ l) s (suc i) k = stands-inside h l s.1 i (le_of_suc-le-suc k)

protocols-inside : (h : List ℕ) (l : List Part) → All (Lies h) l → SpansInside h (padded 16 (span 0 0) (map span_of l)) (length l)
protocols-inside h l s i k = rw (at-padded 16 (span 0 0) (map span_of l) i (rw length-map k)) (stands-inside h l s i k)

sni-inside : (h : List ℕ) (o : Option Part) → SniLies h o → SniInside h (sni_of o)
unfolding sni_of
sni-inside h none s = tt
sni-inside h (some p) s = s.inside

pub shown-sane : (h : List ℕ) (r : Report) → InRange h r → Sane h (shown r)
unfolding shown
shown-sane h r i =
    record {
      counts = record {
        suites = filled 64 0 r.cipher_suites _ refl i.counts.suites;
        types = filled 64 (ext_type 0) (map ext_type r.extensions) _ (length-map r.extensions ext_type) i.counts.types;
        groups = filled 64 (group 0) (map group r.supported_groups) _ (length-map r.supported_groups group) i.counts.groups;
        shares = filled 64 (group 0) (map group r.key_share_groups) _ (length-map r.key_share_groups group) i.counts.shares;
        algorithms = filled 64 0 r.signature_algorithms _ refl i.counts.algorithms;
        versions = filled 64 0 r.supported_versions _ refl i.counts.versions;
        protocols = filled 16 (span 0 0) (map span_of r.alpn) _ (length-map r.alpn span_of) i.counts.protocols;
        ids = filled 64 0 r.transport_param_ids _ refl i.counts.ids;
      };
      protocols-inside = protocols-inside h r.alpn i.protocols-lie;
      sni-inside = sni-inside h r.sni i.sni-lies;
    }

-- ---- an accepted hello is in range

sni-lies : (h : List ℕ) (x : Option Part) → ((p : Part) → x ≡ some p → Lies h p) → SniLies h x
sni-lies h none f = tt
sni-lies h (some p) f = f p refl

pub range-formed : (h : List ℕ) (v : ClientHello) → WellFormed v → encode v ≡ h → InRange h (report v)
range-formed h v w e =
    let names = names-formed h v w e in
    record { counts = within-counts v w; protocols-lie = names.alpn; sni-lies = sni-lies h (report v).sni names.sni }

module _ (h : List ℕ) (b : Bytes h) (v : ClientHello) (e : read h ≡ result v) where
  pub in-range : InRange h (report v)
  in-range = let r = encoded-read h b v e in range-formed h v r.1 r.0

-- what a report says of the bytes
pub record Parsed (h : List ℕ) (p : Fingerprint) : Type 0 where
  pub value : ClientHello
  pub accepted : read h ≡ result value
  pub shows : p ≡ shown (report value)
  pub in-range : InRange h (report value)

pub parsed-sane : (h : List ℕ) (x : Fingerprint) → Parsed h x → Sane h x
parsed-sane h x p = rw p.shows (shown-sane h (report p.value) p.in-range)

-- ---- accepted or refused, by what is handed out

accepted-by : (p : Fingerprint) (a : Answer ClientHello) → result p ≡ parsed_of a → (v : ClientHello) × (a ≡ result v) × (p ≡ shown (report v))
unfolding parsed_of
accepted-by p (result v) e = (v, refl, same-result p (shown (report v)) e)
accepted-by p (refused k) e = absurd (apart (sym e))

refused-by : (n : ℕ) (a : Answer ClientHello) → refused n ≡ parsed_of a → a ≡ refused n
unfolding parsed_of
refused-by n (result v) e = absurd (apart e)
refused-by n (refused k) e = let z : k ≡ n = cc in rw z

module _ (h : List ℕ) where
  pub reported : Bytes h → (p : Fingerprint) → result p ≡ parsed_of (read h) → Parsed h p
  reported b p e =
      let a = accepted-by p (read h) e in
      record {
        value = a.0;
        accepted = a.1;
        shows = a.2;
        in-range = in-range h b a.0 a.1;
      }

  pub refusal_is : (n : ℕ) → refused n ≡ parsed_of (read h) → read h ≡ refused n
  refusal_is n e = refused-by n (read h) e

-- the protocols without what stands past their count lie inside the hello
pub protocols-lie : {h : List ℕ} {f : Fingerprint} → Sane h f → {l : List Span} → l ≡ take f.alpn_count f.alpn → SpansInside h l (length l)
protocols-lie {h} {f} s e =
    rw e (λ i j.
    let filled = s.counts.protocols in
    let few : f.alpn_count ≤ length f.alpn = omega (arith, filled.long, filled.few) in
    let below : i < f.alpn_count = omega (arith, j, length-take-le f.alpn_count f.alpn few) in
    rw (get_or-take f.alpn_count f.alpn i (span 0 0) below) (s.protocols-inside i below))
