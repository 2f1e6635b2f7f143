-- The walk's turns, and its state before each. Assumes nothing.
use Prim.Native.Nat.{ℕ, suc, ◌+◌, ◌-◌, ◌%◌, ◌≤◌, ◌<◌}
use mathlib.Core.Path.{◌≡◌, refl, sym, ap, ◌∙◌, subst}
use mathlib.Core.Bool.{Bool, true, false}
use mathlib.Core.List.{List, [], ◌∷◌, ◌++◌, map, map-append}
use native.Mathlib.Nat.{sub-zero}
use native.Mathlib.Omega.{arith}
use lib.ListN.{length, take, drop, set, get_or, replicate, length-append, length-drop, length-map, length-replicate, length-set, get_or-replicate, drop_of_length-le}
use lib.Seq.{drop-cons, take_at}
use Rattle.wire.specs.Answer.{result, refused}
use Rattle.wire.specs.Numbers.{Bytes}
use Rattle.wire.specs.Sums.{member}
use Rattle.wire.proofs.NumberLaws.{bytes_take, bytes_drop}
use Rattle.wire.proofs.ListLaws.{length_part}
use Rattle.fingerprint_bodies.specs.Entries.{entry}
use Rattle.fingerprint_bodies.specs.Body.{Kind, kind, encode_body}
use Rattle.fingerprint_bodies.proofs.BodyBack.{encoded-length}
use Rattle.fingerprint_parameters.specs.Code.{Marked}
use Rattle.fingerprint_parameters.proofs.MarkLaws.{marked-none, marked_next}
use Rattle.fingerprint_lists.specs.Arrays.{span, padded}
use Rattle.fingerprint_lists.specs.declared.Span.{Span}
use Rattle.fingerprint_lists.proofs.FillLaws.{padded-none, padded-set}
use Rattle.fingerprint.specs.ClientHello.{Extension, type_of, encode_extensions}
use Rattle.fingerprint.specs.Reader.{extension, walk, all_extensions}
use Rattle.fingerprint.specs.Code.{slot, Gained, StepFound, Noted, Surveyed, onward, Walking}
use Rattle.fingerprint.proofs.KindLaws.{slot_small}
use Rattle.fingerprint.proofs.GatherLaws.{length-snoc, count-below}
use Rattle.fingerprint.proofs.WalkTrips.{walk_none}
use Rattle.fingerprint.proofs.IdLaws.{ids-none, ids_next}
use Rattle.fingerprint.proofs.NoteLaws.{notes-none, notes-next}

-- ---- turns

module _ (h : List ℕ) (block : ℕ) where
  onward-start : all_extensions (drop block h) ≡ onward h block [] block
  unfolding all_extensions onward
  onward-start = rw (sub-zero (length (drop block h)))

  module _ (found : List Extension) (at : ℕ) (l : at < length h) (c : length found + block ≤ at) where
    abbrev fuel : ℕ
    fuel = length (drop block h) - (length found + 1)

    burn : length (drop block h) - length found ≡ suc fuel
    burn = omega (arith, length-drop block h)

    onward-next : (e : Extension) (to : ℕ) → extension found (drop at h) ≡ result (entry e (drop to h)) → onward h block found at ≡ onward h block (found ++ (e ∷ [])) to
    unfolding onward walk
    onward-next e to x =
        let more : length (found ++ (e ∷ [])) ≡ length found + 1 = length-append found (e ∷ []) in
        let here : drop at h ≡ get_or h at 0 ∷ drop (suc at) h = drop-cons h at 0 l in
        rw (burn, more, here, rw here at x)

    onward-stop : (n : ℕ) → extension found (drop at h) ≡ refused n → onward h block found at ≡ refused n
    unfolding onward walk
    onward-stop n x =
        let here : drop at h ≡ get_or h at 0 ∷ drop (suc at) h = drop-cons h at 0 l in
        rw (burn, here, rw here at x)

  onward-end : (found : List Extension) (at : ℕ) → length h ≤ at → onward h block found at ≡ result found
  unfolding onward
  onward-end found at l = rw (drop_of_length-le h {i = at} l) (walk_none (length (drop block h) - length found) found)

-- ---- one more at the end of lists

module _ {A : Type 0} (z : A) (l items : List A) (n : ℕ) (is : items ≡ padded 64 z l) (count : n ≡ length l) where
  stored : (a : A) → n < 64 → set items n a ≡ padded 64 z (l ++ (a ∷ []))
  stored a h = rw (is, count) (padded-set 64 z l a (omega (arith, h, count)))

  standing : take n items ≡ l
  unfolding padded
  standing = rw is (take_at l (replicate (64 - length l) z) n (sym count))

  places : n ≤ 64 → length items ≡ 64
  unfolding padded
  places h = rw is (omega (arith, h, count, length-append l (replicate (64 - length l) z), length-replicate (64 - length l) z))

-- ---- the state

pub walking_start : (h : List ℕ) (block : ℕ) → block ≤ length h
    → Walking h block block 0 (replicate 64 0) (replicate 64 false) (replicate 8 (span 0 0)) (replicate 64 0) 0
unfolding encode_extensions
walking_start h block l = record {
  found = [];
  is = onward-start h block;
  place = omega arith;
  inside = l;
  count-is = refl;
  few = omega arith;
  types_are = sym (padded-none 64 0);
  marks-long = length-replicate 64 false;
  marked = marked-none (replicate 64 false);
  bodies-long = length-replicate 8 (span 0 0);
  ids-long = length-replicate {A = ℕ} 64 0;
  ids-are = ids-none block;
  notes = λ k. subst (λ (s : Span). Noted h block [] k s) (sym (get_or-replicate 8 (slot k) (span 0 0) (span 0 0) (slot_small k))) (notes-none h block k);
}

module _ {h : List ℕ} {block at count : ℕ} {types : List ℕ} {marks : List Bool} {bodies : List Span} {ids : List ℕ} {id-count : ℕ} (w : Walking h block at count types marks bodies ids id-count) where
  types-count : count ≡ length (map type_of w.found)
  types-count = w.count-is ∙ sym (length-map w.found type_of)

  types-taken : take count types ≡ map type_of w.found
  types-taken = standing 0 (map type_of w.found) types count w.types_are types-count

  pub types_long : length types ≡ 64
  types_long = places 0 (map type_of w.found) types count w.types_are types-count (omega (arith, w.count-is, w.few))

  pub types-marked : Marked marks (take count types)
  types-marked = subst (λ (ts : List ℕ). Marked marks ts) (sym types-taken) w.marked

  pub has_room : length (take count types) < 64 → count < 64
  has_room l = omega (arith, l, ap length types-taken, types-count)

  forward : length w.found + block ≤ at
  forward = omega (arith, w.place, count-below w.found)

  pub walking-stop : (n : ℕ) → at < length h → ((done : List Extension) → map type_of done ≡ take count types → extension done (drop at h) ≡ refused n)
      → all_extensions (drop block h) ≡ refused n
  walking-stop n l s = w.is ∙ onward-stop h block w.found at l forward n (s w.found (sym types-taken))

  pub walking-end : length h ≤ at → Surveyed h block (record { count = count; bodies = bodies; id_count = id-count }) types ids
  walking-end l = record {
    found = w.found;
    is = w.is ∙ onward-end h block w.found at l;
    count-is = w.count-is;
    few = w.few;
    types_are = w.types_are;
    ids-are = w.ids-are;
    notes = w.notes;
  }

  module _ {t start end mark place : ℕ} {k : Kind} (m : mark ≡ t % 64) (p : place ≡ slot k) (bytes : Bytes h) (l : at < length h)
      (s : StepFound h at t k start end (take count types)) {n : ℕ} {new : List ℕ} (g : Gained (kind t) (take (end - start) (drop start h)) n ids new) where
    abbrev next : Extension
    next = record { type = t; body = s.found }

    abbrev all : List Extension
    all = w.found ++ (next ∷ [])

    room : count < 64
    room = has_room s.room

    size : length (encode_body s.found) ≡ end - start
    size =
        encoded-length (kind t) (take (end - start) (drop start h)) s.found (bytes_take (end - start) (drop start h) (bytes_drop start h bytes)) s.body_is
        ∙ length_part h start end s.forward s.inside

    types-next : map type_of all ≡ map type_of w.found ++ (t ∷ [])
    types-next = map-append type_of w.found (next ∷ [])

    marked_all : Marked (set marks mark true) (map type_of all)
    marked_all =
        rw (types-next, m) (marked_next marks (map type_of w.found) t w.marks-long w.marked)

    type-new : member t (map type_of w.found) ≡ false
    type-new = ap (λ (ts : List ℕ). member t ts) (sym types-taken) ∙ s.new

    body-place : start ≡ block + length (encode_extensions w.found) + 4
    body-place = omega (arith, s.after-header, w.place)

    notes-all : (k : Kind) → Noted h block all k (get_or (set bodies place (span start (end - start))) (slot k) (span 0 0))
    notes-all =
        rw (p, s.kind-is)
        (notes-next h block start (end - start) w.found next bodies (omega (arith, w.bodies-long))
        type-new body-place (omega (arith, s.forward, s.inside)) s.body_is s.good w.notes)

    pub walking-next : Walking h block end (count + 1) (set types count t) (set marks mark true) (set bodies place (span start (end - start))) new (id-count + n)
    walking-next = record {
      found = all;
      is = w.is ∙ onward-next h block w.found at l forward next end (s.is w.found (sym types-taken));
      place = omega (arith, length-snoc w.found next, size, w.place, s.after-header, s.forward);
      inside = s.inside;
      count-is = omega (arith, length-append w.found (next ∷ []), w.count-is);
      few = omega (arith, length-append w.found (next ∷ []), w.count-is, room);
      types_are = stored 0 (map type_of w.found) types count w.types_are types-count t room ∙ ap (λ (ts : List ℕ). padded 64 0 ts) (sym types-next);
      marks-long = length-set marks mark true ∙ w.marks-long;
      marked = marked_all;
      bodies-long = length-set bodies place (span start (end - start)) ∙ w.bodies-long;
      ids-long = g.size;
      ids-are = ids_next block start w.found next (take (end - start) (drop start h)) id-count n ids new w.ids-are g type-new body-place s.body_is;
      notes = notes-all;
    }
