-- The place of a field before the extensions, by what the code asks of it. Assumes nothing.
use Prim.Native.Nat.{ℕ, ◌+◌, ◌-◌, ◌%◌, ◌≤◌, ◌<◌}
use mathlib.Core.Path.{◌≡◌, sym, ap, ◌∙◌}
use mathlib.Core.Logic.{⊎_elim}
use mathlib.Core.List.{List}
use mathlib.Core.Option.{Option, none, some}
use native.Mathlib.Omega.{arith}
use borrow.Author.Tests.{le-leb, lt-leb, eq-eqb, ne_eqb}
use lib.ListN.{length, take, drop, get_or, length-drop}
use lib.Seq.{drop-drop, get_or-drop, length-take-le}
use Rattle.wire.specs.Numbers.{number}
use Rattle.wire.proofs.ListLaws.{lt-or-le}
use Rattle.varint.proofs.ByteLaws.{number-one}
use Rattle.fingerprint_bodies.specs.Entries.{Entry, entry, bind, vector_at, at_least, at_most}
use Rattle.fingerprint_bodies.specs.Forms.{words_in, even_words}
use Rattle.fingerprint_bodies.proofs.PieceLaws.{taken-there, taken-cut, vector-short, vector-there, vector-cut}
use Rattle.fingerprint_stops.specs.Stops.{or_at, compression_stop, suites_stop, session_stop, field_stop, head_place}

-- ---- a vector with a test of its own

module _ {B : Type 0} (width place : ℕ) (bs : List ℕ) (test : Entry (List ℕ) → Option B) (next : Entry (List ℕ) → ℕ) where
  abbrev stop_at : ℕ
  stop_at = or_at place (bind (vector_at width bs) (λ v. bind (test v) (λ _. some v))) next

  vector-none : length bs < width → place ≡ stop_at
  unfolding bind
  vector-none h = rw (vector-short width bs h)

  -- n is the count that stands in front
  module _ (n : ℕ) (is : number 256 (take width bs) ≡ n) (h : width ≤ length bs) where
    abbrev there : Entry (List ℕ)
    there = entry (take n (drop width bs)) (drop n (drop width bs))

    vector-beyond : length bs - width < n → place ≡ stop_at
    unfolding bind
    vector-beyond k = rw (vector-cut width bs n is h k)

    vector-refused : (length (take n (drop width bs)) ≡ n → test there ≡ none) → place ≡ stop_at
    unfolding bind
    vector-refused t = ⊎_elim vector-beyond inside (lt-or-le (length bs - width) n)
      where
        inside : n ≤ length bs - width → place ≡ stop_at
        inside k = rw (vector-there width bs n is h k, t (length-take-le n (drop width bs) (omega (arith, length-drop width bs))))

    vector-passed : n ≤ length bs - width → (b : B) → test there ≡ some b → next there ≡ stop_at
    unfolding bind
    vector-passed k b t = rw (vector-there width bs n is h k, t)

-- ---- compression

module _ (h : List ℕ) (at : ℕ) where
  count_at : at < length h → number 256 (take 1 (drop at h)) ≡ get_or h at 0
  count_at l = number-one (drop at h) (omega (arith, length-drop at h)) ∙ get_or-drop at h 0 0 ∙ let q : at + 0 ≡ at = omega arith in rw q

  pub compression-short : length h - at < 1 → at ≡ compression_stop at (drop at h)
  unfolding compression_stop
  compression-short l = vector-none 1 at (drop at h) (λ c. at_least 1 c.value) _ (omega (arith, length-drop at h))

  module _ (l : at < length h) (n : ℕ) (is : n ≡ get_or h at 0) where
    pub compression-empty : n ≡ 0 → at ≡ compression_stop at (drop at h)
    unfolding compression_stop at_least
    compression-empty z =
        vector-refused 1 at (drop at h) (λ c. at_least 1 c.value) _ n (count_at l ∙ sym is) (omega (arith, length-drop at h))
        (λ long. rw (lt-leb 1 (length (take n (drop 1 (drop at h)))) (omega (arith, long))))

    pub compression-cut : length h - at - 1 < n → at ≡ compression_stop at (drop at h)
    unfolding compression_stop
    compression-cut k =
        vector-beyond 1 at (drop at h) (λ c. at_least 1 c.value) _ n (count_at l ∙ sym is) (omega (arith, length-drop at h)) (omega (arith, length-drop at h))

    pub compression-there : (n ≡ 0 → ⊥) → n ≤ length h - at - 1 → at + 1 + n ≡ compression_stop at (drop at h)
    unfolding compression_stop at_least
    compression-there o k =
        let long : length (take n (drop 1 (drop at h))) ≡ n =
        length-take-le n (drop 1 (drop at h)) (omega (arith, length-drop 1 (drop at h), length-drop at h)) in
        ap (λ (m : ℕ). at + 1 + m) (sym long)
        ∙ vector-passed 1 at (drop at h) (λ c. at_least 1 c.value) (λ c. at + 1 + length c.value) n (count_at l ∙ sym is)
        (omega (arith, length-drop at h)) (omega (arith, length-drop at h)) (take n (drop 1 (drop at h))) (rw (le-leb 1 (length (take n (drop 1 (drop at h)))) (omega (arith, long))))

-- ---- suites

module _ (h : List ℕ) (at : ℕ) where
  pub suites-short : length h - at < 2 → at ≡ suites_stop at (drop at h)
  unfolding suites_stop
  suites-short l = vector-none 2 at (drop at h) (λ s. even_words s.value) _ (omega (arith, length-drop at h))

  module _ (l : 2 ≤ length h - at) (n : ℕ) (is : number 256 (take 2 (drop at h)) ≡ n) where
    room : 2 ≤ length (drop at h)
    room = omega (arith, length-drop at h)

    pub suites-few : n < 2 → at ≡ suites_stop at (drop at h)
    unfolding suites_stop even_words
    suites-few k =
        vector-refused 2 at (drop at h) (λ s. even_words s.value) _ n is room (λ long. rw (long, lt-leb 2 n k))

    pub suites-odd : 2 ≤ n → (n % 2 ≡ 0 → ⊥) → at ≡ suites_stop at (drop at h)
    unfolding suites_stop even_words
    suites-odd k o =
        vector-refused 2 at (drop at h) (λ s. even_words s.value) _ n is room (λ long. rw (long, le-leb 2 n k, ne_eqb (n % 2) 0 o))

    pub suites-cut : length h - at - 2 < n → at ≡ suites_stop at (drop at h)
    unfolding suites_stop
    suites-cut k = vector-beyond 2 at (drop at h) (λ s. even_words s.value) _ n is room (omega (arith, length-drop at h))

    pub suites-there : 2 ≤ n → n % 2 ≡ 0 → n ≤ length h - at - 2 → compression_stop (at + 2 + n) (drop (at + 2 + n) h) ≡ suites_stop at (drop at h)
    unfolding suites_stop even_words
    suites-there a e k =
        let long : length (take n (drop 2 (drop at h))) ≡ n =
        length-take-le n (drop 2 (drop at h)) (omega (arith, length-drop 2 (drop at h), length-drop at h)) in
        let after : drop (at + 2 + n) h ≡ drop n (drop 2 (drop at h)) = sym (rw (drop-drop 2 at h, drop-drop n (at + 2) h)) in
        rw (after, ap (λ (m : ℕ). at + 2 + m) (sym long))
        (vector-passed 2 at (drop at h) (λ s. even_words s.value) (λ s. compression_stop (at + 2 + length s.value) s.rest) n is room
        (omega (arith, length-drop at h)) (words_in (take n (drop 2 (drop at h)))) (rw (long, le-leb 2 n a, eq-eqb (n % 2) 0 e)))

-- ---- version, random bytes and session id

module _ (h : List ℕ) where
  pub session-short : length h < 39 → 38 ≡ session_stop 38 (drop 38 h)
  unfolding session_stop
  session-short l = vector-none 1 38 (drop 38 h) (λ i. at_most 32 i.value) _ (omega (arith, length-drop 38 h))

  module _ (l : 39 ≤ length h) (n : ℕ) (is : n ≡ get_or h 38 0) where
    session-room : 1 ≤ length (drop 38 h)
    session-room = omega (arith, length-drop 38 h)

    session-count : number 256 (take 1 (drop 38 h)) ≡ n
    session-count = count_at h 38 l ∙ sym is

    pub session-long : 32 < n → 38 ≡ session_stop 38 (drop 38 h)
    unfolding session_stop at_most
    session-long k =
        vector-refused 1 38 (drop 38 h) (λ i. at_most 32 i.value) _ n session-count session-room (λ long. rw (long, lt-leb n 32 k))

    pub session-cut : length h - 39 < n → 38 ≡ session_stop 38 (drop 38 h)
    unfolding session_stop
    session-cut k = vector-beyond 1 38 (drop 38 h) (λ i. at_most 32 i.value) _ n session-count session-room (omega (arith, length-drop 38 h))

    pub session-there : n ≤ 32 → n ≤ length h - 39 → suites_stop (39 + n) (drop (39 + n) h) ≡ session_stop 38 (drop 38 h)
    unfolding session_stop at_most
    session-there a k =
        let long : length (take n (drop 1 (drop 38 h))) ≡ n =
        length-take-le n (drop 1 (drop 38 h)) (omega (arith, length-drop 1 (drop 38 h), length-drop 38 h)) in
        let after : drop (39 + n) h ≡ drop n (drop 1 (drop 38 h)) = sym (rw (drop-drop 1 38 h, drop-drop n 39 h)) in
        rw (after, ap (λ (m : ℕ). 39 + m) (sym long))
        (vector-passed 1 38 (drop 38 h) (λ i. at_most 32 i.value) (λ i. suites_stop (38 + 1 + length i.value) i.rest) n session-count session-room
        (omega (arith, length-drop 38 h)) (take n (drop 1 (drop 38 h))) (rw (long, le-leb n 32 a)))

  pub version-cut : length h < 6 → 4 ≡ field_stop (drop 4 h)
  unfolding field_stop
  version-cut l = rw (taken-cut 2 (drop 4 h) (omega (arith, length-drop 4 h)))

  module _ (l : 6 ≤ length h) where
    pub random-cut : length h < 38 → 6 ≡ field_stop (drop 4 h)
    unfolding field_stop
    random-cut k =
        rw (taken-there 2 (drop 4 h) (omega (arith, length-drop 4 h)), drop-drop 2 4 h, taken-cut 32 (drop 6 h) (omega (arith, length-drop 6 h)))

    pub random-there : 38 ≤ length h → session_stop 38 (drop 38 h) ≡ field_stop (drop 4 h)
    unfolding field_stop
    random-there k =
        rw (
          taken-there 2 (drop 4 h) (omega (arith, length-drop 4 h)),
          drop-drop 2 4 h,
          taken-there 32 (drop 6 h) (omega (arith, length-drop 6 h)),
          drop-drop 32 6 h,
        )

  pub field-there : (n : ℕ) → (n ≡ 16 → ⊥) → (n ≡ 17 → ⊥) → (n ≡ 18 → ⊥) → field_stop (drop 4 h) ≡ head_place h n
  unfolding head_place
  field-there n a b c = rw (ne_eqb n 16 a, ne_eqb n 17 b, ne_eqb n 18 c)
