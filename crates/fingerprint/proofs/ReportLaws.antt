-- The report from what was found: each field is that of the ClientHello. Assumes nothing.
use Prim.Native.Nat.{ℕ, zero, suc, ◌+◌, ◌-◌, ◌≤◌, ◌<◌}
use mathlib.Core.Path.{◌≡◌, refl, sym, ap, ◌∙◌, subst}
use mathlib.Core.List.{List, [], ◌∷◌, ◌++◌, map, map-append}
use mathlib.Core.Logic.{⊎_elim}
use Rattle.wire.proofs.ListLaws.{lt-or-le}
use native.Mathlib.Omega.{arith}
use lib.ListN.{length, take, drop, replicate, length-map, length-append, length-replicate}
use lib.Seq.{take_at, drop-append_seam}
use Rattle.std.specs.List.Sorted.{IsPermutation, IsNonDecreasing}
use borrow.Author.Tests.{lt-ltb, le-ltb}
use Rattle.std.specs.Prelude as std
use Rattle.std.specs.Prelude.{Some, None, Result, Ok, Err}
use Rattle.wire.specs.Answer.{Answer, result, refused, told}
use Rattle.wire.specs.Refusals.{answer_of, told_of, told_number}
use Rattle.wire.proofs.AnswerLaws.{told-answer}
use Rattle.wire.specs.declared.refusals.Refusal.{Refusal}
use Rattle.profiles.specs.declared.ExtType.{ExtType}
use Rattle.fingerprint_bodies.specs.Entries.{or_empty}
use Rattle.fingerprint_bodies.specs.Body.{Kind, name, groups, algorithms, protocols, versions, shares}
use Rattle.fingerprint_bodies.specs.Forms.{words_in, word_list, protocol_names, key_shares, group_of}
use Rattle.fingerprint_bodies.specs.Code.{asked, Good}
use Rattle.fingerprint_bodies.proofs.AskLaws.{asked-groups, asked-algorithms, asked-protocols, asked-versions, asked-shares}
use Rattle.fingerprint_lists.specs.Arrays.{Words, Groups, Spans, ext_type, span, padded, placed, words_of, groups_of, spans_of, types_of}
use Rattle.fingerprint_lists.specs.declared.Span.{Span}
use Rattle.fingerprint.specs.ClientHello.{Extension, ClientHello, type_of}
use Rattle.fingerprint.specs.Reader.{with_extensions, all_extensions, read}
use Rattle.fingerprint.specs.Report.{report, block_place, gathered, names_in, first_of, sni_of, empty_report, shown, parsed_of, told_report, number_of}
use Rattle.fingerprint.specs.Calls.{extension_set, bytes_or, name_or}
use Rattle.fingerprint.proofs.RisingLaws.{sorted-is}
use Rattle.fingerprint.specs.Code.{part_of, HeadFound, Noted, IdsFound, Surveyed, note_of, name_in, Readable, FoundOf, ReadAs}
use Rattle.fingerprint.specs.declared.Fingerprint.{Fingerprint}
use Rattle.fingerprint.specs.declared.head.Head.{Head}
use Rattle.fingerprint.specs.declared.walk.Survey.{Survey}
use Rattle.fingerprint.proofs.NameLaws.{length-part-of, name-absent, name-there, absent-short, name-long}

-- ---- The name

pub name-shown : (h : List ℕ) (block : ℕ) (es : List Extension) (s : Span) → Noted h block es name s
    → name_in s ≡ sni_of (first_of (gathered names_in 0x0000 block es))
unfolding name_in sni_of
name-shown h block es s n = ⊎_elim short long (lt-or-le s.length 5)
  where
    short : s.length < 5 → name_in s ≡ sni_of (first_of (gathered names_in 0x0000 block es))
    short k = rw (lt-ltb s.length 5 k, name-absent h block es s n k)

    long : 5 ≤ s.length → name_in s ≡ sni_of (first_of (gathered names_in 0x0000 block es))
    long k =
        let inner = span (s.start + 5) (s.length - 5) in
        let size : length (part_of h inner) ≡ s.length - 5 = length-part-of h inner (omega (arith, n.inside)) in
        rw (le-ltb s.length 5 k, name-there h block es s n k, size)

-- ---- The types

map-zeros : (n : ℕ) → map ext_type (replicate n 0) ≡ replicate n (ext_type 0)
map-zeros zero = refl
map-zeros (suc n) = ap (λ (l : List ExtType). ext_type 0 ∷ l) (map-zeros n)

pub types-padded : (m : ℕ) (l : List ℕ) → map ext_type (padded m 0 l) ≡ padded m (ext_type 0) (map ext_type l)
unfolding padded
types-padded m l = rw (length-map l ext_type) (map-append ext_type l (replicate (m - length l) 0) ∙ ap (λ (r : List ExtType). map ext_type l ++ r) (map-zeros (m - length l)))

-- ---- The report from its lists

-- what the lists' functions ask of the bodies
module _ {h : List ℕ} {head : Head} {r : Survey} (p : Readable h head r) where
  pub length-note : (k : Kind) → length (part_of h (note_of r k)) ≡ (note_of r k).length
  length-note k = length-part-of h (note_of r k) (p.inside k)

  good : (k : Kind) → 0 < length (part_of h (note_of r k)) → asked k (part_of h (note_of r k)) ≡ 0
  good k l = p.good k (omega (arith, length-note k))

  pub good-groups : Good 64 (word_list 2) (part_of h (note_of r groups))
  good-groups l = sym (asked-groups (part_of h (note_of r groups))) ∙ good groups l

  pub good-algorithms : Good 64 (word_list 2) (part_of h (note_of r algorithms))
  good-algorithms l = sym (asked-algorithms (part_of h (note_of r algorithms))) ∙ good algorithms l

  pub good-protocols : Good 16 protocol_names (part_of h (note_of r protocols))
  good-protocols l = sym (asked-protocols (part_of h (note_of r protocols))) ∙ good protocols l

  pub good-versions : Good 64 (word_list 1) (part_of h (note_of r versions))
  good-versions l = sym (asked-versions (part_of h (note_of r versions))) ∙ good versions l

  pub good-shares : Good 64 key_shares (part_of h (note_of r shares))
  good-shares l = sym (asked-shares (part_of h (note_of r shares))) ∙ good shares l

pub report-shown : {h : List ℕ} {head : Head} {found : Survey} {types ids : List ℕ} {v : ClientHello} → FoundOf h head found types ids v
    → (suite-list : Words) (type-list : List ExtType) (group-list share-list : Groups) (algorithm-list version-list : Words) (names : Spans) (sni : std.Option Span)
    → suite-list ≡ words_of (words_in (part_of h head.suites))
    → type-list ≡ map ext_type types
    → group-list ≡ groups_of (or_empty (word_list 2 (part_of h (note_of found groups))))
    → share-list ≡ groups_of (map group_of (or_empty (key_shares (part_of h (note_of found shares)))))
    → algorithm-list ≡ words_of (or_empty (word_list 2 (part_of h (note_of found algorithms))))
    → version-list ≡ words_of (or_empty (word_list 1 (part_of h (note_of found versions))))
    → names ≡ spans_of (placed ((note_of found protocols).start + 2) (or_empty (protocol_names (part_of h (note_of found protocols)))))
    → sni ≡ name_in (note_of found name)
    → record {
      legacy_session_id_len = head.session;
      cipher_suites = suite-list.items;
      suite_count = suite-list.count;
      extensions = type-list;
      extension_count = found.count;
      supported_groups = group-list.items;
      group_count = group-list.count;
      key_share_groups = share-list.items;
      share_count = share-list.count;
      signature_algorithms = algorithm-list.items;
      algorithm_count = algorithm-list.count;
      supported_versions = version-list.items;
      version_count = version-list.count;
      alpn = names.items;
      alpn_count = names.count;
      sni = sni;
      transport_param_ids = ids;
      id_count = found.id_count;
    } ≡ shown (report v)
unfolding shown report words_of groups_of spans_of
report-shown {h} {head} {found} {types} {ids} {v} f suite-list type-list group-list share-list algorithm-list version-list names sni a t b c d e g k =
    let w : suite-list ≡ words_of v.cipher_suites = a ∙ ap words_of (sym f.suites-are) in
    let ts = t ∙ ap (map ext_type) f.types_are ∙ types-padded 64 (map type_of v.extensions) in
    let count : found.count ≡ length (map type_of v.extensions) = f.count-is ∙ sym (length-map v.extensions type_of) in
    let gs = b ∙ ap groups_of (sym (f.notes groups).shows) in
    let ss = c ∙ ap groups_of (sym (f.notes shares).shows) in
    let als = d ∙ ap words_of (sym (f.notes algorithms).shows) in
    let vs = e ∙ ap words_of (sym (f.notes versions).shows) in
    let ps = g ∙ ap spans_of (sym (f.notes protocols).shows) in
    let n = k ∙ name-shown h (block_place v) v.extensions (note_of found name) (f.notes name) in
    λ i. record {
      legacy_session_id_len = sym f.session-is i;
      cipher_suites = (w i).items;
      suite_count = (w i).count;
      extensions = ts i;
      extension_count = count i;
      supported_groups = (gs i).items;
      group_count = (gs i).count;
      key_share_groups = (ss i).items;
      share_count = (ss i).count;
      signature_algorithms = (als i).items;
      algorithm_count = (als i).count;
      supported_versions = (vs i).items;
      version_count = (vs i).count;
      alpn = (ps i).items;
      alpn_count = (ps i).count;
      sni = n i;
      transport_param_ids = f.ids-are.are i;
      id_count = f.ids-are.count-is i;
    }

-- ---- What the head and the walk found

module _ {h : List ℕ} {fields : Head} (head : HeadFound h fields) where
  -- a refusal of the walk is one of the whole
  pub read-refused : (n : ℕ) → all_extensions (drop fields.block h) ≡ refused n → read h ≡ refused n
  read-refused n e = rw (head.is, e)

  module _ {found : Survey} {types ids : List ℕ} (s : Surveyed h fields.block found types ids) where
    abbrev pub hello_of : ClientHello
    hello_of = with_extensions head.found s.found

    pub read_result : read h ≡ result hello_of
    read_result = rw (head.is, s.is)

    block-is : fields.block ≡ block_place hello_of
    unfolding block_place
    block-is = omega (arith, head.place, head.session-is, head.suites-even)

    pub notes-of : (k : Kind) → Noted h (block_place hello_of) s.found k (note_of found k)
    notes-of k = subst (λ (n : ℕ). Noted h n s.found k (note_of found k)) block-is (s.notes k)

    pub found_of : FoundOf h fields found types ids hello_of
    found_of = record {
      session-is = head.session-is;
      suites-are = head.suites-are;
      count-is = s.count-is;
      types_are = s.types_are;
      ids-are = subst (λ (n : ℕ). IdsFound n s.found found.id_count ids) block-is s.ids-are;
      notes = notes-of;
    }

    pub readable : Readable h fields found
    readable = record {
      suites-inside = head.suites-inside;
      suites-few = head.suites-few;
      short = head.short;
      inside = λ k. (s.notes k).inside;
      good = λ k. (s.notes k).good;
    }

    pub few-types : found.count ≤ 64
    few-types = omega (arith, s.count-is, s.few)

    count-is : length (map type_of s.found) ≡ found.count
    count-is = length-map s.found type_of ∙ sym s.count-is

    pub length_types : length types ≡ 64
    unfolding padded
    length_types = rw (s.types_are, length-append, length-replicate) (omega (arith, count-is, few-types))

    types-taken : take found.count types ≡ map type_of s.found
    unfolding padded
    types-taken = rw (s.types_are, take_at (map type_of s.found) (replicate (64 - length (map type_of s.found)) 0) found.count count-is)

    -- zeros stand after them
    zeros-left : drop found.count types ≡ replicate (64 - found.count) 0
    unfolding padded
    zeros-left = rw (s.types_are, ← count-is, drop-append_seam (map type_of s.found) (replicate (64 - length (map type_of s.found)) 0))

    -- ---- The answers of the calls

    pub parsed-result : (r : Fingerprint) → r ≡ shown (report hello_of) → result r ≡ parsed_of (read h)
    unfolding parsed_of
    parsed-result r e = rw (read_result, e)

    -- the types sorted where they stand
    module _ (sorted : List ℕ) (p : IsPermutation (take found.count types) sorted) (n : IsNonDecreasing sorted) (long : length sorted ≡ length (take found.count types)) where
      set-is : sorted ≡ extension_set (read h)
      unfolding extension_set report
      set-is = sorted-is (take found.count types) sorted p n ∙ rw (read_result, types-taken)

      sorted-long : length sorted ≡ found.count
      sorted-long = long ∙ ap length types-taken ∙ count-is

      pub set-result : record { items = map ext_type (sorted ++ drop found.count types); count = found.count } ≡ types_of (extension_set (read h))
      unfolding types_of padded
      set-result =
          rw (← set-is, zeros-left, ← sorted-long) (λ i. record { items = types-padded 64 sorted i; count = length sorted })

    -- the name is where the note says, if the note holds one
    pub name-default : (default : List ℕ) → name_in (note_of found name) ≡ None → default ≡ name_or default (read h)
    unfolding name_or bytes_or report
    name-default default e =
        rw (read_result, name-absent h (block_place hello_of) s.found (note_of found name) (notes-of name) (absent-short (note_of found name) e))

    pub name-result : (default : List ℕ) (p : Span) → name_in (note_of found name) ≡ Some p → part_of h p ≡ name_or default (read h)
    unfolding name_or bytes_or report
    name-result default p e =
        let l = name-long (note_of found name) p e in
        rw (read_result, name-there h (block_place hello_of) s.found (note_of found name) (notes-of name) l.0, l.1)

    pub name-inside : (p : Span) → name_in (note_of found name) ≡ Some p → p.start + p.length ≤ length h
    name-inside p e =
        let l = name-long (note_of found name) p e in
        rw l.1 (omega (arith, (s.notes name).inside, l.0))

-- ---- Where the hello is refused

module _ {x : Answer ClientHello} {n : ℕ} (e : x ≡ refused n) where
  pub refused-result : refused n ≡ parsed_of x
  unfolding parsed_of
  refused-result = rw e

  pub name-refused : (default : List ℕ) → default ≡ name_or default x
  unfolding name_or
  name-refused default = rw e

  pub set-refused : [] ≡ extension_set x
  unfolding extension_set
  set-refused = rw e

-- ---- What the report's call tells in numbers is what its answer does

pub parsed-tells : (r : Result Fingerprint Refusal) (x : Answer ClientHello) → answer_of r ≡ parsed_of x → told_of (shown empty_report) r ≡ told_report x
parsed-tells r x e = told-answer (shown empty_report) r ∙ ap (told (shown empty_report)) e

-- ---- The number of what the head and the walk answer is the reader's

pub read-number : (h : List ℕ) (r : Result (Head × Survey) Refusal) (types ids : List ℕ) → ReadAs h r types ids → told_number r ≡ number_of (read h)
unfolding number_of
read-number h (Ok (fields, found)) types ids s = rw (read_result s.0 s.1)
read-number h (Err e) types ids s = rw s
