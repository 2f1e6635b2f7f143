-- WHAT IS MADE IS A WELL-FORMED CLIENTHELLO, AND ITS REPORT SHOWS THE PROFILE AND THE NAME. Assumes nothing.
use Prim.Native.Nat.{ℕ, ◌≤◌}
use mathlib.Core.Path.{◌≡◌, refl, sym, ap}
use mathlib.Core.Bool.{Bool, true, false, cond}
use mathlib.Core.List.{List, [], ◌∷◌, ◌++◌, map, append_assoc}
use native.Mathlib.Omega.{arith}
use lib.ListN.{length, length-append, length-map}
use lib.Dec.{ltb, lit<, lit≤}
use borrow.Author.Tests.{ltb-true}
use Rattle.wire.specs.Numbers.{digits}
use Rattle.wire.specs.Vectors.{vector, words}
use Rattle.wire.specs.Sums.{Permutation, member, distinct}
use Rattle.wire.proofs.NumberLaws.{length_digits}
use Rattle.wire.proofs.VectorLaws.{length-vector}
use Rattle.wire.proofs.SumLaws.{length-permutes, count-permutes, distinct-once, once-distinct, and_left, and_right}
use Rattle.profiles.specs.Profile.{Profile}
use Rattle.profiles.specs.Sizes.{session_length, after_order}
use Rattle.profiles.specs.Test.{all, counted, word_list, known, passes}
use Rattle.profiles.proofs.TestLaws.{Passed, passed}
use Rattle.tape.specs.Tape.{rand_bytes}
use Rattle.tape.proofs.DrawLaws.{length-rand_bytes}
use Rattle.tls.specs.Hello.{build_extension, build_extensions, order, fields, block, body, hello}
use Rattle.tls.proofs.Sent.{order-permutes, all-permutes}
use Rattle.tls.proofs.Sizes.{hello-fits}
use Rattle.fingerprint_bodies.specs.Conditions.{All}
use Rattle.fingerprint.specs.ClientHello.{type_of, encode_extensions, encode_fields, encode, FormedExtension, WellFormed}
use Rattle.fingerprint.specs.Report.{Report, report}
use Rattle.fingerprint.proofs.WellFormed.{read-encoded}
use Rattle.fingerprint.proofs.ShownLaws.{range-formed}
use Rattle.alike.specs.Alike.{alike_id}
use Rattle.laws_read_back.specs.Shown.{carried, Shows, Asked, Made, ReadBack}
use Rattle.laws_read_back.proofs.ByteLaws.{bytes-nil, bytes-cons, bytes-digits, bytes-drawn}
use Rattle.laws_read_back.proofs.Value.{made_extension, made_extensions, made_value}
use Rattle.laws_read_back.proofs.BodyLaws.{formed-words, extension-bytes, formed-extension}
use Rattle.laws_read_back.proofs.ListsShown as lists

-- the five fields before the block, and it
five-fields : (a b c d e f : List ℕ) → (a ++ (b ++ (c ++ (d ++ e)))) ++ f ≡ a ++ (b ++ (c ++ (d ++ (e ++ f))))
five-fields a b c d e f = simp append_assoc

module _ (p : Profile) (host scid tape : List ℕ) where
  -- ---- extension by extension

  types-made : (ts : List ℕ) (at : ℕ) → map type_of (made_extensions p host scid tape ts at) ≡ ts
  unfolding made_extensions made_extension
  types-made [] at = refl
  types-made (t ∷ ts) at = ap (λ (l : List ℕ). t ∷ l) (types-made ts (build_extension p host scid tape t at).next)

  extensions-bytes : (ts : List ℕ) (at : ℕ) → all known ts ≡ true
      → encode_extensions (made_extensions p host scid tape ts at) ≡ (build_extensions p host scid tape ts at).bytes
  unfolding encode_extensions made_extensions build_extensions all
  extensions-bytes [] at h = refl
  extensions-bytes (t ∷ ts) at h =
      rw (
        extension-bytes p host scid tape t at (and_left (known t) (all known ts) h),
        extensions-bytes ts (build_extension p host scid tape t at).next (and_right (known t) (all known ts) h),
      )

  extensions-formed : Asked p host scid tape → Passed p → (ts : List ℕ) (at : ℕ) → all known ts ≡ true → all (λ t. ltb t 65536) ts ≡ true
      → length (build_extensions p host scid tape ts at).bytes ≤ 16384
      → All FormedExtension (made_extensions p host scid tape ts at)
  unfolding made_extensions build_extensions all
  extensions-formed asked facts [] at h k l = tt
  extensions-formed asked facts (t ∷ ts) at h k l =
      let next : ℕ = (build_extension p host scid tape t at).next in
      let both = length-append (build_extension p host scid tape t at).bytes (build_extensions p host scid tape ts next).bytes in (
        formed-extension p host scid tape asked facts t at (ltb-true t 65536 (and_left (ltb t 65536) (all (λ t. ltb t 65536) ts) k))
            (and_left (known t) (all known ts) h) (omega arith),
        extensions-formed asked facts ts next (and_right (known t) (all known ts) h) (and_right (ltb t 65536) (all (λ t. ltb t 65536) ts) k)
            (omega arith),
      )

  -- ---- the whole

  value-bytes : all known (order p tape) ≡ true → encode (made_value p host scid tape) ≡ (hello p host scid tape).bytes
  unfolding encode encode_fields made_value hello body block fields
  value-bytes there =
      let extensions : List ℕ = vector 2 (build_extensions p host scid tape (order p tape) (after_order p)).bytes in
      rw (extensions-bytes (order p tape) (after_order p) there)
      (ap (λ (l : List ℕ). 0x01 ∷ vector 3 l)
      (sym (five-fields (digits 256 2 0x0303) (rand_bytes 32 tape 0) (vector 1 (rand_bytes (session_length p) tape 32)) (vector 2 (words p.cipher_suites))
      (vector 1 (0x00 ∷ [])) extensions)))

  session-length : session_length p ≤ 32
  session-length = go p.use_empty_session_id
    where
      go : (b : Bool) → cond b 0 32 ≤ 32
      go true = lit≤ tt
      go false = lit≤ tt

  block-short : length (hello p host scid tape).bytes ≤ 16384 → length (block p host scid tape).bytes ≤ 16384
  unfolding hello body
  block-short h =
      let extensions : List ℕ = (block p host scid tape).bytes in
      omega (
        arith,
        h,
        length-vector 3 (fields p tape ++ vector 2 extensions),
        length-append (fields p tape) (vector 2 extensions),
        length-vector 2 extensions,
      )

  small-types : passes p ≡ true → all (λ t. ltb t 65536) p.extensions_order ≡ true
  unfolding passes word_list
  small-types test = and_right (counted 1 64 p.extensions_order) _ (and_left (word_list p.extensions_order) _ test)

  module _ (asked : Asked p host scid tape) where
    facts : Passed p
    facts = passed p asked.passing

    -- all types are sent, and have two bytes, in the order drawn too
    all-sent : all known (order p tape) ≡ true
    all-sent = all-permutes known p.extensions_order (order p tape) (order-permutes p tape) facts.types-known

    all_small : all (λ t. ltb t 65536) (order p tape) ≡ true
    all_small =
        all-permutes (λ t. ltb t 65536) p.extensions_order (order p tape) (order-permutes p tape) (small-types asked.passing)

    types-once : distinct (order p tape) ≡ true
    types-once =
        once-distinct (order p tape)
        (λ x.
        omega (
          arith,
          count-permutes x p.extensions_order (order p tape) (order-permutes p tape),
          distinct-once p.extensions_order facts.types-once x,
        ))

    few-types : length (order p tape) ≤ 64
    few-types = omega (arith, length-permutes p.extensions_order (order p tape) (order-permutes p tape), facts.types.number.below)

    short : length (hello p host scid tape).bytes ≤ 16384
    short = hello-fits p host scid tape asked.passing asked.name-short asked.scid-short

    value-formed : WellFormed (made_value p host scid tape)
    unfolding made_value block
    value-formed =
        let types = types-made (order p tape) (after_order p) in
        record {
          version = length_digits 256 2 0x0303;
          version-bytes = bytes-digits 2 0x0303;
          random = length-rand_bytes 32 tape 0;
          random-bytes = bytes-drawn 32 tape 0 asked.tape-bytes;
          session = omega (arith, length-rand_bytes (session_length p) tape 32, session-length);
          session-bytes = bytes-drawn (session_length p) tape 32 asked.tape-bytes;
          suites = formed-words p.cipher_suites facts.suites;
          compressed = lit≤ tt;
          compression-fits = lit< tt;
          compression-bytes = bytes-cons 0x00 [] (lit< tt) bytes-nil;
          extensions = extensions-formed asked facts (order p tape) (after_order p) all-sent all_small (block-short short);
          types-once = rw types types-once;
          few = omega (arith, length-map (made_extensions p host scid tape (order p tape) (after_order p)) type_of, ap (λ (l : List ℕ). length l) types, few-types);
          short = rw (value-bytes all-sent) short;
        }

    value-shows : Shows p host tape (report (made_value p host scid tape))
    unfolding report made_value
    value-shows =
        let types = types-made (order p tape) (after_order p) in
        let once = facts.types-once in
        record {
          session = length-rand_bytes (session_length p) tape 32;
          suites = refl;
          types = rw types (order-permutes p tape);
          types-drawn = types;
          groups = lists.groups-shown p host scid tape once;
          shares = lists.shares-shown p host scid tape once;
          algorithms = lists.algorithms-shown p host scid tape once;
          versions = lists.versions-shown p host scid tape once;
          protocols = lists.protocols-shown p host scid tape once;
          server-name = lists.name-shown p host scid tape once facts.named;
          ids = lists.ids-shown p host scid tape once;
        }

-- THE BYTES THAT ARE MADE ARE THOSE OF A WELL-FORMED CLIENTHELLO, AND ITS REPORT SHOWS PROFILE AND NAME: for every profile that passes
-- the test, every name, connection id and tape
pub made-formed : (p : Profile) (name scid tape : List ℕ) → Asked p name scid tape → Made p name scid tape
made-formed p name scid tape asked = record {
  value = made_value p name scid tape;
  is = value-bytes p name scid tape (all-sent p name scid tape asked);
  formed = value-formed p name scid tape asked;
  shows = value-shows p name scid tape asked;
}

-- where the profile sends no transport parameters, the report has no ids
pub no-ids : (p : Profile) (name tape : List ℕ) (r : Report) → Shows p name tape r → member 0x0039 p.extensions_order ≡ false
    → r.transport_param_ids ≡ []
unfolding carried
no-ids p name tape r shows absent = go r.transport_param_ids (rw absent at shows.ids)
  where
    go : (ids : List ℕ) → Permutation [] (map alike_id ids) → ids ≡ []
    go [] same = refl
    go (i ∷ ids) same = absurd (omega (arith, length-permutes [] (map alike_id (i ∷ ids)) same))

-- THE READER ACCEPTS WHAT IS MADE, AND REPORTS PROFILE AND NAME
pub read_back : (p : Profile) (name scid tape : List ℕ) → Asked p name scid tape → ReadBack p name scid tape
read_back p name scid tape asked =
    let made = made-formed p name scid tape asked in
    record {
      value = made.value;
      accepted = rw (← made.is) (read-encoded made.value made.formed);
      ranges = range-formed (hello p name scid tape).bytes made.value made.formed made.is;
      shows = made.shows;
    }
