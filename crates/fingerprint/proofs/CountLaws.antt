-- The lists in the report of a well-formed ClientHello are within the limits of their arrays. Assumes nothing.
use Prim.Native.Nat.{ℕ, ◌+◌, ◌*◌, ◌≤◌}
use mathlib.Core.Bool.{Bool, true, false, cond}
use mathlib.Core.List.{List, [], ◌∷◌, map}
use native.Mathlib.Nat.{mul-le-mul_left}
use native.Mathlib.Omega.{arith}
use lib.ListN.{length, length-append, length-map}
use lib.Dec.{eqb}
use Rattle.wire.specs.Sums.{indicator, count}
use Rattle.wire.proofs.SumLaws.{count-cons, distinct-once}
use Rattle.fingerprint_bodies.specs.Body.{Body, server-name, supported-groups, signature-algorithms, application-protocols, supported-versions, key-shares, transport-parameters, unread, encode_body}
use Rattle.fingerprint_bodies.specs.Conditions.{All, FormedBody}
use Rattle.fingerprint_bodies.specs.Forms.{group_of, id_of}
use Rattle.fingerprint_lists.proofs.WalkLaws.{length-placed}
use Rattle.fingerprint.specs.ClientHello.{Extension, ClientHello, type_of, FormedExtension, WellFormed}
use Rattle.fingerprint.specs.Report.{numbers_in, names_in, gathered, block_place, report}
use Rattle.fingerprint.specs.InRange.{WithinCounts}

-- ---- a list of the extensions of type t, of which each holds at most m

module _ {A : Type 0} (f : ℕ → Body → List A) (m : ℕ) (few : (at : ℕ) (b : Body) → FormedBody b → length (f at b) ≤ m) (t : ℕ) where
  one-within : (at : ℕ) (e : Extension) → FormedExtension e → length (cond (eqb t e.type) (f at e.body) []) ≤ m * indicator (eqb t e.type)
  one-within at e h = go (eqb t e.type)
    where
      go : (b : Bool) → length (cond b (f at e.body) []) ≤ m * indicator b
      go true = omega (arith, few at e.body h.body)
      go false = omega arith

  -- at most m for each time that type t stands there
  gathered-count : (es : List Extension) (at : ℕ) → All FormedExtension es → length (gathered f t at es) ≤ m * count t (map type_of es)
  unfolding gathered
  gathered-count [] at h = omega arith
  gathered-count (e ∷ es) at h =
      let next : ℕ = at + 4 + length (encode_body e.body) in
      rw (count-cons t e.type (map type_of es))
      (omega (
        arith,
        length-append (cond (eqb t e.type) (f (at + 4) e.body) []) (gathered f t next es),
        one-within (at + 4) e h.0,
        gathered-count es next h.1,
      ))

  -- which is once at most
  gathered-within : (v : ClientHello) → WellFormed v → length (gathered f t (block_place v) v.extensions) ≤ m
  gathered-within v h =
      omega (
        arith,
        gathered-count v.extensions (block_place v) h.extensions,
        mul-le-mul_left m (distinct-once (map type_of v.extensions) h.types-once t),
      )

-- ---- how much one body holds

numbers-few : (at : ℕ) (b : Body) → FormedBody b → length (numbers_in at b) ≤ 64
unfolding numbers_in
numbers-few at (server-name n) h = omega arith
numbers-few at (supported-groups l) h = h.few
numbers-few at (signature-algorithms l) h = h.few
numbers-few at (application-protocols l) h = omega arith
numbers-few at (supported-versions l) h = h.few
numbers-few at (key-shares l) h = omega (arith, h.few, length-map l group_of)
numbers-few at (transport-parameters l) h = omega (arith, h.few, length-map l id_of)
numbers-few at (unread b) h = omega arith

names-few : (at : ℕ) (b : Body) → FormedBody b → length (names_in at b) ≤ 16
unfolding names_in
names-few at (server-name n) h = omega arith
names-few at (supported-groups l) h = omega arith
names-few at (signature-algorithms l) h = omega arith
names-few at (application-protocols l) h = omega (arith, h.few, length-placed (at + 2) l)
names-few at (supported-versions l) h = omega arith
names-few at (key-shares l) h = omega arith
names-few at (transport-parameters l) h = omega arith
names-few at (unread b) h = omega arith

-- ---- the report

pub within-counts : (v : ClientHello) → WellFormed v → WithinCounts (report v)
unfolding report
within-counts v h =
    record {
      suites = h.suites.few;
      types = omega (arith, h.few, length-map v.extensions type_of);
      groups = gathered-within numbers_in 64 numbers-few 0x000a v h;
      shares = gathered-within numbers_in 64 numbers-few 0x0033 v h;
      algorithms = gathered-within numbers_in 64 numbers-few 0x000d v h;
      versions = gathered-within numbers_in 64 numbers-few 0x002b v h;
      protocols = gathered-within names_in 16 names-few 0x0010 v h;
      ids = gathered-within numbers_in 64 numbers-few 0x0039 v h;
    }
