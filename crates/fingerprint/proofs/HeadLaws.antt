-- What stands before the extensions, question by question. Assumes nothing.
use Prim.Native.Nat.{ℕ, ◌+◌, ◌-◌, ◌*◌, ◌%◌, ◌≤◌, ◌<◌}
use mathlib.Core.Path.{◌≡◌, refl, ◌∙◌}
use mathlib.Core.Logic.{⊎_elim}
use mathlib.Core.List.{List, [], ◌∷◌}
use mathlib.Core.Option.{Option, none, some}
use native.Mathlib.Omega.{arith}
use borrow.Author.Tests.{le-leb, lt-leb, eq-eqb, ne_eqb}
use lib.ListN.{length, take, drop, get_or, length-drop}
use lib.Seq.{drop-drop, get_or-drop, length-take-le}
use Rattle.wire.specs.Answer.{result, refused}
use Rattle.wire.specs.Numbers.{number_on, number}
use Rattle.wire.proofs.ListLaws.{lt-or-le}
use Rattle.fingerprint_bodies.specs.Entries.{entry, bind, vector_at, whole, at_least, at_most}
use Rattle.fingerprint_bodies.specs.Forms.{words_in, even_words}
use Rattle.fingerprint_bodies.proofs.PieceLaws.{taken-there, taken-cut, vector-short, vector-there, vector-cut, whole-there, whole-short, whole-other}
use Rattle.varint.proofs.ByteLaws.{number-one}
use Rattle.fingerprint.specs.Reader.{Fields, in_form, after_suites, after_session, fields, read_body, read_fields}

-- ---- The first four bytes

-- three bytes, as the code reads them
pub number-three : (h : List ℕ) → 4 ≤ length h → number 256 (take 3 (drop 1 h)) ≡ get_or h 1 0 * 65536 + get_or h 2 0 * 256 + get_or h 3 0
unfolding number number_on
number-three [] h = absurd (omega arith)
number-three (a ∷ []) h = absurd (omega arith)
number-three (a ∷ b ∷ []) h = absurd (omega arith)
number-three (a ∷ b ∷ c ∷ []) h = absurd (omega arith)
number-three (a ∷ b ∷ c ∷ d ∷ r) h = omega arith

module _ (h : List ℕ) where
  pub read-long : 16384 < length h → read_fields h ≡ refused 16
  unfolding read_fields
  read-long k = rw (lt-leb (length h) 16384 k)

  module _ (short : length h ≤ 16384) where
    pub read-empty : length h ≡ 0 → read_fields h ≡ refused 17
    unfolding read_fields
    read-empty k = rw (le-leb (length h) 16384 short, lt-leb 1 (length h) (omega arith))

    pub read-type : 1 ≤ length h → (get_or h 0 0 ≡ 1 → ⊥) → read_fields h ≡ refused 17
    unfolding read_fields
    read-type s k = rw (le-leb (length h) 16384 short, le-leb 1 (length h) s, ne_eqb (get_or h 0 0) 1 k)

    module _ (there : 1 ≤ length h) (one : get_or h 0 0 ≡ 1) where
      read-body : read_fields h ≡ read_body (drop 1 h)
      unfolding read_fields
      read-body = rw (le-leb (length h) 16384 short, le-leb 1 (length h) there, eq-eqb (get_or h 0 0) 1 one)

      pub read-few : length h < 4 → read_fields h ≡ refused 18
      unfolding read_body
      read-few k = read-body ∙ rw (whole-short 3 (drop 1 h) (omega (arith, length-drop 1 h)))

      module _ (four : 4 ≤ length h) (n : ℕ) (is : number 256 (take 3 (drop 1 h)) ≡ n) where
        pub read-other : (n ≡ length h - 4 → ⊥) → read_fields h ≡ refused 18
        unfolding read_body
        read-other k =
            let other : number 256 (take 3 (drop 1 h)) ≡ length (drop 1 h) - 3 → ⊥ = λ e. k (omega (arith, is, e, length-drop 1 h)) in
            read-body ∙ rw (whole-other 3 (drop 1 h) (omega (arith, length-drop 1 h)) other)

        pub read-fields : n ≡ length h - 4 → read_fields h ≡ in_form (fields (drop 4 h)) 19 result
        unfolding read_body
        read-fields e =
            let same : number 256 (take 3 (drop 1 h)) ≡ length (drop 1 h) - 3 = omega (arith, is, e, length-drop 1 h) in
            read-body ∙ rw (whole-there 3 (drop 1 h) (omega (arith, length-drop 1 h)) same, drop-drop 3 1 h)

-- ---- Version, random bytes and session id

module _ (h : List ℕ) where
  pub fields-short : length h < 39 → fields (drop 4 h) ≡ none
  unfolding fields bind
  fields-short k =
      let long : length (drop 4 h) ≡ length h - 4 = length-drop 4 h in
      let random : 6 ≤ length h → length h < 38 → fields (drop 4 h) ≡ none =
      λ a b. rw (taken-there 2 (drop 4 h) (omega (arith, long)), drop-drop 2 4 h, taken-cut 32 (drop 6 h) (omega (arith, length-drop 6 h))) in
      let session : 38 ≤ length h → fields (drop 4 h) ≡ none =
      λ a. rw (
        taken-there 2 (drop 4 h) (omega (arith, long)),
        drop-drop 2 4 h,
        taken-there 32 (drop 6 h) (omega (arith, length-drop 6 h)),
        drop-drop 32 6 h,
        vector-short 1 (drop 38 h) (omega (arith, length-drop 38 h)),
      ) in
      ⊎_elim (λ a. rw (taken-cut 2 (drop 4 h) (omega (arith, long)))) (λ a. ⊎_elim (random a) session (lt-or-le (length h) 38)) (lt-or-le (length h) 6)

  -- after the version and the random bytes: n is the count of the session id
  module _ (long : 39 ≤ length h) (n : ℕ) (is : get_or h 38 0 ≡ n) where
    session-rest : Option Fields
    session-rest = bind (vector_at 1 (drop 38 h)) (λ i. bind (at_most 32 i.value) (λ id. after_session (take 2 (drop 4 h)) (take 32 (drop 6 h)) id i.rest))

    session-is : fields (drop 4 h) ≡ session-rest
    unfolding fields bind session-rest
    session-is =
        rw (
          taken-there 2 (drop 4 h) (omega (arith, length-drop 4 h)),
          drop-drop 2 4 h,
          taken-there 32 (drop 6 h) (omega (arith, length-drop 6 h)),
          drop-drop 32 6 h,
        )

    count : number 256 (take 1 (drop 38 h)) ≡ n
    count = number-one (drop 38 h) (omega (arith, length-drop 38 h)) ∙ get_or-drop 38 h 0 0 ∙ is

    pub session-cut : length h - 39 < n → fields (drop 4 h) ≡ none
    unfolding bind session-rest
    session-cut k = session-is ∙ rw (vector-cut 1 (drop 38 h) n count (omega (arith, length-drop 38 h)) (omega (arith, length-drop 38 h)))

    vector-is : n ≤ length h - 39 → vector_at 1 (drop 38 h) ≡ some (entry (take n (drop 39 h)) (drop (39 + n) h))
    vector-is k =
        vector-there 1 (drop 38 h) n count (omega (arith, length-drop 38 h)) (omega (arith, length-drop 38 h)) ∙ rw (drop-drop 1 38 h, drop-drop n 39 h)

    pub session-length : n ≤ length h - 39 → length (take n (drop 39 h)) ≡ n
    session-length k = length-take-le n (drop 39 h) (omega (arith, length-drop 39 h))

    pub session-long : 32 < n → fields (drop 4 h) ≡ none
    unfolding bind session-rest at_most
    session-long k =
        let there : n ≤ length h - 39 → fields (drop 4 h) ≡ none =
        λ w. session-is ∙ rw (vector-is w, lt-leb (length (take n (drop 39 h))) 32 (omega (arith, session-length w))) in
        ⊎_elim session-cut there (lt-or-le (length h - 39) n)

    pub session-there : n ≤ 32 → n ≤ length h - 39
        → fields (drop 4 h) ≡ after_session (take 2 (drop 4 h)) (take 32 (drop 6 h)) (take n (drop 39 h)) (drop (39 + n) h)
    unfolding bind session-rest at_most
    session-there k w = session-is ∙ rw (vector-is w, le-leb (length (take n (drop 39 h))) 32 (omega (arith, session-length w)))

-- ---- Suites

module _ (version random id h : List ℕ) (at : ℕ) (inside : at ≤ length h) where
  abbrev suites-next : Option Fields
  suites-next = after_session version random id (drop at h)

  pub suites-short : length h - at < 2 → suites-next ≡ none
  unfolding after_session bind
  suites-short k = rw (vector-short 2 (drop at h) (omega (arith, length-drop at h)))

  module _ (room : 2 ≤ length h - at) (n : ℕ) (is : number 256 (take 2 (drop at h)) ≡ n) where
    pub suites-cut : length h - (at + 2) < n → suites-next ≡ none
    unfolding after_session bind
    suites-cut k = rw (vector-cut 2 (drop at h) n is (omega (arith, length-drop at h)) (omega (arith, length-drop at h)))

    suites-is : n ≤ length h - (at + 2)
        → suites-next ≡ bind (even_words (take n (drop (at + 2) h))) (λ suites. after_suites version random id suites (drop (at + 2 + n) h))
    unfolding after_session bind
    suites-is k =
        rw (vector-there 2 (drop at h) n is (omega (arith, length-drop at h)) (omega (arith, length-drop at h)), drop-drop 2 at h, drop-drop n (at + 2) h)

    pub suites-length : n ≤ length h - (at + 2) → length (take n (drop (at + 2) h)) ≡ n
    suites-length k = length-take-le n (drop (at + 2) h) (omega (arith, length-drop (at + 2) h))

    pub suites-few : n < 2 → suites-next ≡ none
    unfolding even_words bind
    suites-few k =
        let there : n ≤ length h - (at + 2) → suites-next ≡ none = λ w. suites-is w ∙ rw (suites-length w, lt-leb 2 n k) in
        ⊎_elim suites-cut there (lt-or-le (length h - (at + 2)) n)

    pub suites-odd : 2 ≤ n → (n % 2 ≡ 0 → ⊥) → suites-next ≡ none
    unfolding even_words bind
    suites-odd a k =
        let there : n ≤ length h - (at + 2) → suites-next ≡ none = λ w. suites-is w ∙ rw (suites-length w, le-leb 2 n a, ne_eqb (n % 2) 0 k) in
        ⊎_elim suites-cut there (lt-or-le (length h - (at + 2)) n)

    pub suites-there : 2 ≤ n → n % 2 ≡ 0 → n ≤ length h - (at + 2)
        → suites-next ≡ after_suites version random id (words_in (take n (drop (at + 2) h))) (drop (at + 2 + n) h)
    unfolding even_words bind
    suites-there a e w = suites-is w ∙ rw (suites-length w, le-leb 2 n a, eq-eqb (n % 2) 0 e)

-- ---- Compression, and the block

module _ (version random id suites h : List ℕ) (at : ℕ) where
  abbrev compression-next : Option Fields
  compression-next = after_suites version random id suites (drop at h)

  module _ (room : 1 ≤ length h - at) (n : ℕ) (is : get_or h at 0 ≡ n) where
    compression-count : number 256 (take 1 (drop at h)) ≡ n
    compression-count = number-one (drop at h) (omega (arith, length-drop at h)) ∙ get_or-drop at h 0 0 ∙ let q : at + 0 ≡ at = omega arith in rw (q, is)

    pub compression-cut : length h - at - 1 < n → compression-next ≡ none
    unfolding after_suites bind
    compression-cut k = rw (vector-cut 1 (drop at h) n compression-count (omega (arith, length-drop at h)) (omega (arith, length-drop at h)))

    pub compression-empty : n ≡ 0 → compression-next ≡ none
    unfolding after_suites bind at_least
    compression-empty k = rw (vector-there 1 (drop at h) 0 (compression-count ∙ k) (omega (arith, length-drop at h)) (omega arith))

    module _ (a : 1 ≤ n) (w : n ≤ length h - at - 1) where
      pub compression-length : length (take n (drop (at + 1) h)) ≡ n
      compression-length = length-take-le n (drop (at + 1) h) (omega (arith, length-drop (at + 1) h))

      compression-is : compression-next ≡ bind (whole 2 (drop (at + 1 + n) h)) (λ block. some (record { version = version; random = random; session_id = id; cipher_suites = suites; compression = take n (drop (at + 1) h); block = block }))
      unfolding after_suites bind at_least
      compression-is =
          rw (
            vector-there 1 (drop at h) n compression-count (omega (arith, length-drop at h)) (omega (arith, length-drop at h)),
            drop-drop 1 at h,
            drop-drop n (at + 1) h,
            le-leb 1 (length (take n (drop (at + 1) h))) (omega (arith, compression-length)),
          )

      pub block-cut : whole 2 (drop (at + 1 + n) h) ≡ none → compression-next ≡ none
      unfolding bind
      block-cut e = compression-is ∙ rw e

      pub block-there : (b : ℕ) → whole 2 (drop (at + 1 + n) h) ≡ some (drop b h)
          → compression-next ≡ some (record { version = version; random = random; session_id = id; cipher_suites = suites; compression = take n (drop (at + 1) h); block = drop b h })
      unfolding bind
      block-there b e = compression-is ∙ rw e

  pub compression-short : length h - at < 2 → compression-next ≡ none
  unfolding after_suites bind
  compression-short k =
      let n : ℕ = get_or h at 0 in
      let room : 1 ≤ length h - at → compression-next ≡ none =
      λ r. ⊎_elim (λ cut. compression-cut r n refl cut) (λ empty. compression-empty r n refl (omega arith)) (lt-or-le (length h - at - 1) n) in
      ⊎_elim (λ short. rw (vector-short 1 (drop at h) (omega (arith, length-drop at h)))) room (lt-or-le (length h - at) 1)

module _ (h : List ℕ) (at : ℕ) where
  pub end_short : length h - at < 2 → whole 2 (drop at h) ≡ none
  end_short k = whole-short 2 (drop at h) (omega (arith, length-drop at h))

  module _ (room : 2 ≤ length h - at) (n : ℕ) (is : number 256 (take 2 (drop at h)) ≡ n) where
    pub end-other : (n ≡ length h - at - 2 → ⊥) → whole 2 (drop at h) ≡ none
    end-other k = whole-other 2 (drop at h) (omega (arith, length-drop at h)) (λ e. k (omega (arith, is, e, length-drop at h)))

    pub end-there : n ≡ length h - at - 2 → whole 2 (drop at h) ≡ some (drop (at + 2) h)
    end-there e = whole-there 2 (drop at h) (omega (arith, length-drop at h)) (omega (arith, is, e, length-drop at h)) ∙ rw (drop-drop 2 at h)
