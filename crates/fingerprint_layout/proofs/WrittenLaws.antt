-- A report written from what was found: the lists, and then the counts before them, are its layout. Assumes nothing.
use Prim.Native.Nat.{ℕ, ◌≤◌}
use mathlib.Core.Path.{◌≡◌, refl, sym, ap, ◌∙◌}
use mathlib.Core.List.{List, ◌∷◌, ◌++◌, map, map-map, map-id, append_assoc}
use native.Mathlib.Omega.{arith}
use lib.ListN.{length, take, get_or, drop, length-append, take-append-drop}
use lib.Seq.{drop_at, length-take-le}
use Rattle.wire.specs.Front.{front}
use Rattle.wire.proofs.Writing.{lent_from, back_from, filled, joined}
use Rattle.fingerprint_bodies.specs.Body as kind
use Rattle.fingerprint_lists.specs.Arrays.{ext_type, span, padded, Part, span_of, words_of, groups_of, spans_of}
use Rattle.fingerprint_lists.specs.declared.Span.{Span}
use Rattle.fingerprint.specs.ClientHello.{ClientHello}
use Rattle.fingerprint.specs.Report.{report, shown}
use Rattle.fingerprint.specs.Code.{note_of, name_in, type_number, FoundOf}
use Rattle.fingerprint.specs.declared.Fingerprint.{Fingerprint}
use Rattle.std.specs.Prelude.{Option}
use Rattle.fingerprint.specs.declared.head.Head.{Head}
use Rattle.fingerprint.specs.declared.walk.Survey.{Survey}
use Rattle.fingerprint.proofs.ReportLaws.{report-shown}
use Rattle.fingerprint_layout.specs.Layout.{littles, ranges, name_numbers, count_numbers, list_numbers, layout}
use Rattle.fingerprint_layout.specs.Code.{suites_in, groups_in, shares_in, algorithms_in, versions_in, protocols_in, first_bytes, last_bytes, FirstPut, LastPut, ReportPut}
use Rattle.fingerprint_layout.proofs.PieceLaws.{littles-append, length-littles}
use Rattle.fingerprint_layout.proofs.PadLaws.{padded-full, group-numbers}
use Rattle.fingerprint_layout.proofs.PlaceLaws.{front-front}
use Rattle.fingerprint_layout.proofs.LayoutLaws.{length-name}

-- ---- the parts that the code writes, one after the other

pub first-parts : {a a' b b' c c' : List ℕ} (types : List ℕ) → a ≡ a' → length types ≡ 64 → b ≡ b' → c ≡ c'
    → ((littles 2 (padded 64 0 a) ++ littles 2 (padded 64 0 types)) ++ littles 2 (padded 64 0 b)) ++ littles 2 (padded 64 0 c) ≡ first_bytes a' types b' c'
unfolding first_bytes
first-parts types p t q r = rw (p, q, r, padded-full 64 types t) (simp append_assoc)

pub last-parts : {a a' b b' : List ℕ} {c c' : List Part} (ids : List ℕ) → a ≡ a' → b ≡ b' → c ≡ c'
    → ((littles 2 (padded 64 0 a) ++ littles 2 (padded 64 0 b)) ++ littles 2 (ranges (padded 16 (span 0 0) (map span_of c)))) ++ littles 8 ids ≡ last_bytes a' b' c' ids
unfolding last_bytes
last-parts ids p q r = rw (p, q, r) (simp append_assoc)

-- the lists were written after 24 bytes, and then the counts over these
pub counts-last : (counts before first last old : List ℕ) {out new : List ℕ} → length counts ≡ length before
    → out ≡ front ((before ++ first) ++ last) old → new ≡ front counts out → new ≡ front (counts ++ (first ++ last)) old
counts-last counts before first last old e o n =
    let whole = (before ++ first) ++ last in
    let long : length counts ≤ length whole = simp length-append (omega arith) in
    let rest : drop (length counts) whole ≡ first ++ last = rw (append_assoc before first last) (drop_at before (first ++ last) (length counts) (sym e)) in
    n
    ∙ ap (λ (l : List ℕ). front counts l) o
    ∙ front-front counts whole old long
    ∙ ap (λ (l : List ℕ). front (counts ++ l) old) rest

pub first_taken : (n : ℕ) (l : List ℕ) → n ≤ length l → l ≡ front (take n l) l
unfolding front
first_taken n l h = sym (rw (length-take-le n l h) (take-append-drop n l))

type-numbers : (l : List ℕ) → map type_number (map ext_type l) ≡ l
type-numbers l = map-map type_number ext_type l ∙ map-id l

module _ {h : List ℕ} {head : Head} {found : Survey} {types ids : List ℕ} {v : ClientHello} (f : FoundOf h head found types ids v) where
  -- the report as the code finds its fields
  abbrev fields : Fingerprint
  fields = record {
    legacy_session_id_len = head.session;
    cipher_suites = (words_of (suites_in h head)).items;
    suite_count = (words_of (suites_in h head)).count;
    extensions = map ext_type types;
    extension_count = found.count;
    supported_groups = (groups_of (groups_in h found)).items;
    group_count = (groups_of (groups_in h found)).count;
    key_share_groups = (groups_of (shares_in h found)).items;
    share_count = (groups_of (shares_in h found)).count;
    signature_algorithms = (words_of (algorithms_in h found)).items;
    algorithm_count = (words_of (algorithms_in h found)).count;
    supported_versions = (words_of (versions_in h found)).items;
    version_count = (words_of (versions_in h found)).count;
    alpn = (spans_of (protocols_in h found)).items;
    alpn_count = (spans_of (protocols_in h found)).count;
    sni = name_in (note_of found kind.name);
    transport_param_ids = ids;
    id_count = found.id_count;
  }

  fields-shown : fields ≡ shown (report v)
  fields-shown =
      report-shown f
      (words_of (suites_in h head))
      (map ext_type types)
      (groups_of (groups_in h found))
      (groups_of (shares_in h found))
      (words_of (algorithms_in h found))
      (words_of (versions_in h found))
      (spans_of (protocols_in h found))
      (name_in (note_of found kind.name))
      refl
      refl
      refl
      refl
      refl
      refl
      refl
      refl

  parts : littles 2 (count_numbers fields)
      ++ (first_bytes (suites_in h head) types (groups_in h found) (shares_in h found)
      ++ last_bytes (algorithms_in h found) (versions_in h found) (protocols_in h found) ids) ≡ layout fields
  unfolding layout list_numbers first_bytes last_bytes words_of groups_of spans_of
  parts = simp (littles-append, append_assoc, group-numbers, type-numbers)

  pub layout-found :
      littles 2 (
      head.session
      ∷ length (suites_in h head)
      ∷ found.count
      ∷ length (groups_in h found)
      ∷ length (shares_in h found)
      ∷ length (algorithms_in h found)
      ∷ length (versions_in h found)
      ∷ length (protocols_in h found)
      ∷ found.id_count
      ∷ name_numbers (name_in (note_of found kind.name))
      )
      ++ (first_bytes (suites_in h head) types (groups_in h found) (shares_in h found)
      ++ last_bytes (algorithms_in h found) (versions_in h found) (protocols_in h found) ids) ≡ layout (shown (report v))
  unfolding count_numbers words_of groups_of spans_of
  layout-found = parts ∙ ap layout fields-shown

-- the counts of what was found
module _ (session : ℕ) (found : Survey) (first last : List ℕ) (name : Option Span) where
  abbrev pub counts_found : List ℕ
  counts_found =
      session
      ∷ get_or first 0 0
      ∷ found.count
      ∷ get_or first 1 0
      ∷ get_or first 2 0
      ∷ get_or last 0 0
      ∷ get_or last 1 0
      ∷ get_or last 2 0
      ∷ found.id_count
      ∷ name_numbers name

pub report-put :
    {h : List ℕ} {head : Head} {found : Survey} {types ids : List ℕ}
    {first last part part' new : List ℕ} {name : Option Span} (old : List ℕ) → 24 ≤ length old
    → FirstPut h head found types first (lent_from 24 old) part
    → LastPut h found ids last (lent_from 536 (back_from 24 old part)) part'
    → name ≡ name_in (note_of found kind.name)
    → new ≡ front (littles 2 (counts_found head.session found first last name)) (back_from 536 (back_from 24 old part) part')
    → ReportPut h head found types ids old new
report-put {head = head} {found = found} {first = first} {last = last} {name = name} old room p q n e =
    let counts = counts_found head.session found first last name in
    let taken : length (take 24 old) ≡ 24 = length-take-le 24 old room in
    let long : length (littles 2 counts) ≡ length (take 24 old) = omega (arith, length-littles 2 counts, length-name name) in
    let lists = joined (joined (filled taken (first_taken 24 old room)) p.put) q.put in
    record {
      is = λ v f.
          counts-last (littles 2 counts) (take 24 old) _ _ old long lists.output e
          ∙ ap (λ (l : List ℕ). front l old)
          (rw (p.counts, q.counts, n) (layout-found f));
    }
