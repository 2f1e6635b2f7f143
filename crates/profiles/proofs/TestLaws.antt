-- What a profile that passes the test has, fact by fact. Assumes nothing.
use Prim.Native.Nat.{ℕ, zero, suc, ◌^◌, ◌≤◌, ◌<◌}
use mathlib.Core.Path.{◌≡◌}
use mathlib.Core.Bool.{Bool, true, not, ◌&&◌}
use mathlib.Core.List.{List, [], ◌∷◌, map}
use native.Mathlib.Nat.{not-suc-le-zero, le_of_suc-le-suc}
use lib.ListN.{length, get_or}
use lib.Dec.{eqb, ltb, leb, lit<}
use borrow.Author.Tests.{eqb-true, ltb-true, leb-true}
use Rattle.wire.specs.Numbers.{Bytes}
use Rattle.wire.specs.Sums.{member, distinct}
use Rattle.wire.proofs.SumLaws.{and_left, and_right}
use Rattle.profiles.specs.Profile.{varint, bytes, version_info, scid_source, Profile}
use Rattle.profiles.specs.Sizes.{longest, tape_needed}
use Rattle.profiles.specs.Test.{all, counted, word_list, id_of, id_ok, parameter_ok, known, passes}

-- ---- a test of every element

pub all-at : {A : Type 0} (q : A → Bool) (l : List A) (d : A) → all q l ≡ true → (j : ℕ) → j < length l → q (get_or l j d) ≡ true
unfolding all
all-at q [] d e j h = absurd (not-suc-le-zero h)
all-at q (x ∷ l) d e zero h = and_left (q x) (all q l) e
all-at q (x ∷ l) d e (suc j) h = all-at q l d (and_right (q x) (all q l) e) j (le_of_suc-le-suc h)

-- numbers that are all below a bound; past the end a list holds 0
pub all-below : (m : ℕ) (l : List ℕ) → 0 < m → all (λ v. ltb v m) l ≡ true → (j : ℕ) → get_or l j 0 < m
unfolding all
all-below m [] h e j = h
all-below m (x ∷ l) h e zero = ltb-true x m (and_left (ltb x m) (all (λ v. ltb v m) l) e)
all-below m (x ∷ l) h e (suc j) = all-below m l h (and_right (ltb x m) (all (λ v. ltb v m) l) e) j

-- ---- counts and words

pub record Counted {A : Type 0} (least most : ℕ) (l : List A) : Type 0 where
  pub above : least ≤ length l
  pub below : length l ≤ most

counts : {A : Type 0} (least most : ℕ) (l : List A) → counted least most l ≡ true → Counted least most l
counts least most l e = record {
  above = leb-true least (length l) (and_left (leb least (length l)) (leb (length l) most) e);
  below = leb-true (length l) most (and_right (leb least (length l)) (leb (length l) most) e);
}

-- a list of 16-bit numbers
pub record Words (l : List ℕ) : Type 0 where
  pub number : Counted 1 64 l
  pub small : (j : ℕ) → get_or l j 0 < 65536

words : (l : List ℕ) → word_list l ≡ true → Words l
unfolding word_list
words l e = record {
  number = counts 1 64 l (and_left (counted 1 64 l) (all (λ v. ltb v 65536) l) e);
  small = all-below 65536 l (lit< tt) (and_right (counted 1 64 l) (all (λ v. ltb v 65536) l) e);
}

-- ---- the test

-- what `passes` asks of a protocol's name
abbrev pub name_ok : List ℕ → Bool
name_ok name = counted 1 255 name && all (λ x. ltb x 256) name

pub record Passed (p : Profile) : Type 0 where
  pub types : Words p.extensions_order
  pub types-once : distinct p.extensions_order ≡ true
  pub types-known : all known p.extensions_order ≡ true
  pub named : member 0x0000 p.extensions_order ≡ true
  pub suites : Words p.cipher_suites
  pub groups : Words p.supported_groups
  pub algorithms : Words p.signature_algorithms
  pub versions : Words p.supported_versions
  pub shares : Words p.key_share_groups
  pub protocols : Counted 1 16 p.alpn
  pub protocols-ok : all name_ok p.alpn ≡ true
  pub parameters : Counted 0 64 p.quic_tp
  pub parameters-ok : all parameter_ok p.quic_tp ≡ true
  pub ids-once : distinct (map id_of p.quic_tp) ≡ true
  pub hello-small : longest p 255 20 ≤ 16384
  pub tape-small : tape_needed p ≤ 16384

pub passed : (p : Profile) → passes p ≡ true → Passed p
unfolding passes
passed p e0 =
    let e1 = and_right (word_list p.extensions_order) _ e0 in
    let e2 = and_right (distinct p.extensions_order) _ e1 in
    let e3 = and_right (all known p.extensions_order) _ e2 in
    let e4 = and_right (member 0x0000 p.extensions_order) _ e3 in
    let e5 = and_right (word_list p.cipher_suites) _ e4 in
    let e6 = and_right (word_list p.supported_groups) _ e5 in
    let e7 = and_right (word_list p.signature_algorithms) _ e6 in
    let e8 = and_right (word_list p.supported_versions) _ e7 in
    let e9 = and_right (word_list p.key_share_groups) _ e8 in
    let e10 = and_right (counted 1 16 p.alpn) _ e9 in
    let e11 = and_right (all name_ok p.alpn) _ e10 in
    let e12 = and_right (counted 0 64 p.quic_tp) _ e11 in
    let e13 = and_right (all parameter_ok p.quic_tp) _ e12 in
    let e14 = and_right (distinct (map id_of p.quic_tp)) _ e13 in
    record {
      types = words p.extensions_order (and_left _ _ e0);
      types-once = and_left _ _ e1;
      types-known = and_left _ _ e2;
      named = and_left _ _ e3;
      suites = words p.cipher_suites (and_left _ _ e4);
      groups = words p.supported_groups (and_left _ _ e5);
      algorithms = words p.signature_algorithms (and_left _ _ e6);
      versions = words p.supported_versions (and_left _ _ e7);
      shares = words p.key_share_groups (and_left _ _ e8);
      protocols = counts 1 16 p.alpn (and_left _ _ e9);
      protocols-ok = and_left _ _ e10;
      parameters = counts 0 64 p.quic_tp (and_left _ _ e11);
      parameters-ok = and_left _ _ e12;
      ids-once = and_left _ _ e13;
      hello-small = leb-true (longest p 255 20) 16384 (and_left _ _ e14);
      tape-small = leb-true (tape_needed p) 16384 (and_right (leb (longest p 255 20) 16384) _ e14);
    }

-- ---- what the tests of elements say

pub name-ok : (name : List ℕ) → name_ok name ≡ true → Counted 1 255 name × Bytes name
name-ok name e =
    (counts 1 255 name (and_left _ _ e), all-below 256 name (lit< tt) (and_right (counted 1 255 name) _ e))

id-ok : (i : ℕ) → id_ok i ≡ true → i < 2 ^ 61
unfolding id_ok
id-ok i e = ltb-true i (2 ^ 61) (and_left (ltb i (2 ^ 61)) (not (eqb i 0x11)) e)

pub varint-ok : (i v : ℕ) → parameter_ok (varint i v) ≡ true → (i < 2 ^ 61) × (v < 2 ^ 62)
unfolding parameter_ok
varint-ok i v e = (id-ok i (and_left _ _ e), ltb-true v (2 ^ 62) (and_right (id_ok i) _ e))

pub bytes_ok : (i : ℕ) (b : List ℕ) → parameter_ok (bytes i b) ≡ true → (i < 2 ^ 61) × Bytes b
unfolding parameter_ok
bytes_ok i b e = (id-ok i (and_left _ _ e), all-below 256 b (lit< tt) (and_right (id_ok i) _ e))

pub version-info-ok : (i : ℕ) → parameter_ok (version_info i) ≡ true → i < 2 ^ 61
unfolding parameter_ok
version-info-ok i e = rw (eqb-true i 0x11 e) (lit< tt)

pub scid-source-ok : (i : ℕ) → parameter_ok (scid_source i) ≡ true → i < 2 ^ 61
unfolding parameter_ok
scid-source-ok i e = id-ok i e
