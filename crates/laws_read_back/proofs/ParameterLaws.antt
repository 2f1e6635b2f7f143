-- The transport parameters of a made hello: their bytes, their form, their ids. Assumes nothing.
use Prim.Native.Nat.{ℕ, suc, ◌+◌, ◌%◌, ◌^◌, ◌≤◌, ◌<◌}
use mathlib.Core.Path.{◌≡◌, refl, sym, ap, ◌∙◌}
use mathlib.Core.Bool.{Bool, true, false, ◌&&◌}
use mathlib.Core.List.{List, [], ◌∷◌, ◌++◌, map}
use native.Mathlib.Omega.{arith}
use lib.ListN.{length, length-append, length-map}
use lib.Dec.{eqb, ltb, lit<}
use borrow.Author.Tests.{eq-eqb, eqb-true, lt-ltb, ltb-true}
use Rattle.wire.specs.Numbers.{Bytes}
use Rattle.wire.specs.Sums.{indicator, total, Permutation, count, distinct}
use Rattle.wire.proofs.SumLaws.{total-map, total-le, length-permutes, count-permutes, distinct-once, once-distinct, and_left, and_right}
use Rattle.varint.specs.Varint.{class, shortest, Holds}
use Rattle.varint.proofs.TableLaws.{class-small, class-holds}
use Rattle.profiles.specs.Profile as profile
use Rattle.profiles.specs.Profile.{varint, bytes, version_info, scid_source, grease, Profile}
use Rattle.profiles.specs.Sizes.{parameter_draws}
use Rattle.profiles.specs.Test as test
use Rattle.profiles.specs.Test.{all, parameter_ok}
use Rattle.profiles.proofs.TestLaws.{all-below, varint-ok, bytes_ok, version-info-ok, scid-source-ok}
use Rattle.tape.specs.Tape.{rand_bytes, next_u64, grease_id, version_information}
use Rattle.tape.proofs.DrawnNumbers.{grease-reserved, grease-below}
use Rattle.tls_parameters.specs.Parameters.{version, Resolved, resolve, resolved, sent_parameters, parameter, parameters}
use Rattle.tls_parameters.proofs.LengthLaws.{length-resolved, length-parameter}
use Rattle.tls_parameters.proofs.Sent.{sent-permutes, folded, ids-permute}
use Rattle.tls.proofs.Sent.{all-permutes}
use Rattle.fingerprint_bodies.specs.Body.{encode_parameter, encode_parameters}
use Rattle.fingerprint_bodies.specs.Conditions.{All, FormedParameter, FormedParameters}
use Rattle.fingerprint_bodies.specs.Forms.{id_of}
use Rattle.alike.specs.Alike.{alike_id}
use Rattle.laws_read_back.specs.Shown.{alike_parameter, profile_ids}
use Rattle.laws_read_back.proofs.ByteLaws.{bytes-drawn, bytes-shortest, bytes-version-information}
use Rattle.laws_read_back.proofs.Value.{made_parameter}

-- ---- their bytes

pub parameters-bytes : (rs : List Resolved) → encode_parameters (map made_parameter rs) ≡ parameters rs
unfolding encode_parameters encode_parameter parameters parameter shortest
parameters-bytes [] = refl
parameters-bytes (r ∷ rs) = ap (λ (l : List ℕ). parameter r.id r.value ++ l) (parameters-bytes rs)

-- ---- their form: ids below 2^62, values of bytes

abbrev well_resolved : Resolved → Bool
well_resolved r = ltb r.id (2 ^ 62) && all (λ x. ltb x 256) r.value

all-bytes : (s : List ℕ) → Bytes s → all (λ x. ltb x 256) s ≡ true
unfolding all
all-bytes [] b = refl
all-bytes (x ∷ s) b = rw (lt-ltb x 256 (b 0)) (all-bytes s (λ i. b (suc i)))

well-resolved : (i : ℕ) (s : List ℕ) → i < 2 ^ 62 → Bytes s → well_resolved (record { id = i; value = s }) ≡ true
well-resolved i s h b = rw (lt-ltb i (2 ^ 62) h) (all-bytes s b)

module _ (scid tape : List ℕ) (connection : Bytes scid) (drawn : Bytes tape) where
  one-resolved : (q : profile.Parameter) (at : ℕ) → parameter_ok q ≡ true → well_resolved (resolve q scid tape at) ≡ true
  unfolding resolve
  one-resolved (varint i v) at e = well-resolved i (shortest v) (omega (arith, (varint-ok i v e).0)) (bytes-shortest v)
  one-resolved (bytes i b) at e = well-resolved i b (omega (arith, (bytes_ok i b e).0)) (bytes_ok i b e).1
  one-resolved (version_info i) at e =
      well-resolved i (version_information version (next_u64 tape at)) (omega (arith, version-info-ok i e))
      (bytes-version-information version (next_u64 tape at))
  one-resolved (scid_source i) at e = well-resolved i scid (omega (arith, scid-source-ok i e)) connection
  one-resolved grease at e =
      well-resolved (grease_id (next_u64 tape at)) (rand_bytes 6 tape (at + 8)) (grease-below (next_u64 tape at)) (bytes-drawn 6 tape (at + 8) drawn)

  all-resolved : (ps : List profile.Parameter) (at : ℕ) → all parameter_ok ps ≡ true → all well_resolved (resolved ps scid tape at) ≡ true
  unfolding all resolved
  all-resolved [] at e = refl
  all-resolved (q ∷ ps) at e =
      rw (one-resolved q at (and_left (parameter_ok q) (all parameter_ok ps) e))
      (all-resolved ps (at + parameter_draws q) (and_right (parameter_ok q) (all parameter_ok ps) e))

  -- in the order in which they are sent
  all-sent : (ps : List profile.Parameter) (at : ℕ) → all parameter_ok ps ≡ true → all well_resolved (sent_parameters ps scid tape at) ≡ true
  all-sent ps at e =
      all-permutes well_resolved (resolved ps scid tape at) (sent_parameters ps scid tape at) (sent-permutes ps scid tape at) (all-resolved ps at e)

-- a number below 2^62 has its class
class_of : (v : ℕ) → v < 2 ^ 62 → Holds (class v) v
class_of v h = record { known = class-small v h; below = class-holds v (class-small v h) }

formed-one : (r : Resolved) → well_resolved r ≡ true → length r.value < 2 ^ 62 → FormedParameter (made_parameter r)
formed-one r e h = record {
  id = class_of r.id (ltb-true r.id (2 ^ 62) (and_left (ltb r.id (2 ^ 62)) (all (λ x. ltb x 256) r.value) e));
  size = class_of (length r.value) h;
  bytes = all-below 256 r.value (lit< tt) (and_right (ltb r.id (2 ^ 62)) (all (λ x. ltb x 256) r.value) e);
}

-- no value is longer than all parameters together
formed-each : (rs : List Resolved) → all well_resolved rs ≡ true → length (parameters rs) < 2 ^ 62 → All FormedParameter (map made_parameter rs)
unfolding all parameters
formed-each [] e h = tt
formed-each (r ∷ rs) e h =
    let whole = length-append (parameter r.id r.value) (parameters rs) in
    let one = length-parameter r.id r.value in (
      formed-one r (and_left (well_resolved r) (all well_resolved rs) e) (omega arith),
      formed-each rs (and_right (well_resolved r) (all well_resolved rs) e) (omega arith),
    )

-- ---- ids once each: GREASE's are from 2^61 on, and all others below

sent-ids : (rs : List Resolved) → map id_of (map made_parameter rs) ≡ map (λ r. r.id) rs
sent-ids [] = refl
sent-ids (r ∷ rs) = ap (λ (l : List ℕ). r.id ∷ l) (sent-ids rs)

-- equal ids are folded to equal ones
same-folded : (x y : ℕ) → indicator (eqb x y) ≤ indicator (eqb (folded x) (folded y))
same-folded x y = go (eqb x y) refl
  where
    go : (b : Bool) → eqb x y ≡ b → indicator b ≤ indicator (eqb (folded x) (folded y))
    go true e = omega (arith, ap indicator (eq-eqb (folded x) (folded y) (ap folded (eqb-true x y e))))
    go false e = omega arith

count-folded : (x : ℕ) (rs : List Resolved) → count x (map (λ r. r.id) rs) ≤ count (folded x) (map (λ r. folded r.id) rs)
unfolding count
count-folded x rs =
    let ids : Resolved → ℕ = λ r. r.id in
    let fold : Resolved → ℕ = λ r. folded r.id in
    omega (
      arith,
      total-map ids (λ y. indicator (eqb x y)) rs,
      total-map fold (λ y. indicator (eqb (folded x) y)) rs,
      total-le (λ (r : Resolved). indicator (eqb x r.id)) (λ r. indicator (eqb (folded x) (folded r.id))) (λ r. same-folded x r.id) rs,
    )

module _ (ps : List profile.Parameter) (scid tape : List ℕ) (at : ℕ) (ok : all parameter_ok ps ≡ true) where
  ids-once : distinct (map test.id_of ps) ≡ true → distinct (map id_of (map made_parameter (sent_parameters ps scid tape at))) ≡ true
  ids-once once =
      let rs : List Resolved = sent_parameters ps scid tape at in
      let folds : List ℕ = map (λ r. folded r.id) rs in
      let least : (x : ℕ) → count x (map (λ r. r.id) rs) ≤ 1 =
      (λ x.
      omega (
        arith,
        count-folded x rs,
        count-permutes (folded x) (map test.id_of ps) folds (ids-permute ps scid tape at ok),
        distinct-once (map test.id_of ps) once (folded x),
      )) in
      rw (sent-ids rs) (once-distinct (map (λ r. r.id) rs) least)

  pub formed-parameters : Bytes scid → Bytes tape → length ps ≤ 64 → distinct (map test.id_of ps) ≡ true
      → length (parameters (sent_parameters ps scid tape at)) < 2 ^ 62
      → FormedParameters (map made_parameter (sent_parameters ps scid tape at))
  formed-parameters connection drawn few once short =
      let rs : List Resolved = sent_parameters ps scid tape at in
      record {
        few =
            omega (
              arith,
              length-map rs made_parameter,
              length-permutes (resolved ps scid tape at) rs (sent-permutes ps scid tape at),
              length-resolved ps scid tape at,
            );
        each = formed-each rs (all-sent scid tape connection drawn ps at ok) short;
        once = ids-once once;
      }

-- ---- "each id that is 27 mod 31, GREASE too, counts as 27"

alike-one : (q : profile.Parameter) (scid tape : List ℕ) (at : ℕ) → alike_parameter q ≡ alike_id (resolve q scid tape at).id
unfolding alike_parameter resolve alike_id
alike-one (varint i v) scid tape at = refl
alike-one (bytes i b) scid tape at = refl
alike-one (version_info i) scid tape at = refl
alike-one (scid_source i) scid tape at = refl
alike-one grease scid tape at = rw (eq-eqb (grease_id (next_u64 tape at) % 31) 27 (grease-reserved (next_u64 tape at)))

alike_resolved : (f : ℕ → ℕ) (ps : List profile.Parameter) (scid tape : List ℕ) (at : ℕ)
    → total f (map alike_parameter ps) ≡ total (λ r. f (alike_id r.id)) (resolved ps scid tape at)
unfolding total resolved
alike_resolved f [] scid tape at = refl
alike_resolved f (q ∷ ps) scid tape at = rw (alike-one q scid tape at, alike_resolved f ps scid tape (at + parameter_draws q))

alike-sent : (f : ℕ → ℕ) (rs : List Resolved) → total f (map alike_id (map id_of (map made_parameter rs))) ≡ total (λ r. f (alike_id r.id)) rs
unfolding total
alike-sent f [] = refl
alike-sent f (r ∷ rs) = ap (λ (n : ℕ). f (alike_id r.id) + n) (alike-sent f rs)

pub alike-ids : (p : Profile) (scid tape : List ℕ) (at : ℕ)
    → Permutation (profile_ids p) (map alike_id (map id_of (map made_parameter (sent_parameters p.quic_tp scid tape at))))
unfolding profile_ids
alike-ids p scid tape at f =
    alike_resolved f p.quic_tp scid tape at
    ∙ sent-permutes p.quic_tp scid tape at (λ r. f (alike_id r.id))
    ∙ sym (alike-sent f (sent_parameters p.quic_tp scid tape at))
