-- Alike (document 01): "It says yes exactly when both are accepted and agree in session id length, in name (or its absence) and, in order,
-- in suites, groups, key-share groups, signature algorithms, versions and ALPN, and when extension types and parameter ids agree with order
-- put aside and repeats counted, each id that is 27 mod 31 counting as 27."
use Rattle.std.specs.Prelude.{ℕ, ◌%◌, ◌≡◌, Bool, true, false, cond, ◌&&◌, List, [], ◌∷◌, map, eqb}
use Rattle.std.proofs.Math.Option.{Option, none, some}
use Rattle.wire.specs.Answer.{Answer, result, refused}
use Rattle.wire.specs.Sums.{count, same_counts}
use Rattle.fingerprint_bodies.specs.Entries.{mapped}
use Rattle.fingerprint_lists.specs.Arrays.{Part}
use Rattle.fingerprint.specs.ClientHello.{ClientHello}
use Rattle.fingerprint.specs.Reader.{read}
use Rattle.fingerprint.specs.Report.{Report, report}

-- ---- What two hellos are compared in

pub record Likeness : Type 0 where
  pub session_id_length : ℕ
  pub name : Option (List ℕ)
  pub cipher_suites : List ℕ
  pub supported_groups : List ℕ
  pub key_share_groups : List ℕ
  pub signature_algorithms : List ℕ
  pub supported_versions : List ℕ
  pub alpn : List (List ℕ)
  pub extensions : List ℕ
  pub transport_param_ids : List ℕ

-- "each id that is 27 mod 31 counting as 27"
unfoldable pub alike_id : ℕ → ℕ
alike_id x = cond (eqb (x % 31) 27) 27 x

-- a name by its bytes, wherever in the hello it stands
abbrev pub bytes_of : Part → List ℕ
bytes_of p = p.bytes

unfoldable pub likeness : Report → Likeness
likeness r = record {
  session_id_length = r.session_id_length;
  name = mapped bytes_of r.sni;
  cipher_suites = r.cipher_suites;
  supported_groups = r.supported_groups;
  key_share_groups = r.key_share_groups;
  signature_algorithms = r.signature_algorithms;
  supported_versions = r.supported_versions;
  alpn = map bytes_of r.alpn;
  extensions = r.extensions;
  transport_param_ids = map alike_id r.transport_param_ids;
}

-- ---- Whether they agree

-- two lists have the same count of elements, each of which passes the test with the other's at its place
unfoldable pub same_list : {A : Type 0} → (A → A → Bool) → List A → List A → Bool
same_list q [] [] = true
same_list q [] (y ∷ ys) = false
same_list q (x ∷ xs) [] = false
same_list q (x ∷ xs) (y ∷ ys) = q x y && same_list q xs ys

abbrev pub same_numbers : List ℕ → List ℕ → Bool
same_numbers a b = same_list eqb a b

-- "in name (or its absence)"
unfoldable pub same_name : Option (List ℕ) → Option (List ℕ) → Bool
same_name none none = true
same_name none (some b) = false
same_name (some a) none = false
same_name (some a) (some b) = same_numbers a b

-- "in order, in suites, groups, key-share groups, signature algorithms, versions"
unfoldable pub same_lists : Likeness → Likeness → Bool
same_lists a b =
    same_numbers a.cipher_suites b.cipher_suites
    && (same_numbers a.supported_groups b.supported_groups
    && (same_numbers a.key_share_groups b.key_share_groups
    && (same_numbers a.signature_algorithms b.signature_algorithms && same_numbers a.supported_versions b.supported_versions)))

unfoldable pub agree : Likeness → Likeness → Bool
agree a b =
    eqb a.session_id_length b.session_id_length
    && (same_name a.name b.name
    && (same_lists a b
    && (same_list same_numbers a.alpn b.alpn
    && (same_counts a.extensions b.extensions && same_counts a.transport_param_ids b.transport_param_ids))))

-- "yes exactly when both are accepted and agree"
unfoldable pub alike : Answer ClientHello → Answer ClientHello → Bool
alike (result v) (result w) = agree (likeness (report v)) (likeness (report w))
alike (result v) (refused n) = false
alike (refused n) a = false

-- ---- The same as a statement

-- equal but for the order of extension types and parameter ids, of which each number stands as often in the one as in the other
pub record Same (a b : Likeness) : Type 0 where
  pub session : a.session_id_length ≡ b.session_id_length
  pub name : a.name ≡ b.name
  pub suites : a.cipher_suites ≡ b.cipher_suites
  pub groups : a.supported_groups ≡ b.supported_groups
  pub shares : a.key_share_groups ≡ b.key_share_groups
  pub algorithms : a.signature_algorithms ≡ b.signature_algorithms
  pub versions : a.supported_versions ≡ b.supported_versions
  pub protocols : a.alpn ≡ b.alpn
  pub types : (x : ℕ) → count x a.extensions ≡ count x b.extensions
  pub ids : (x : ℕ) → count x a.transport_param_ids ≡ count x b.transport_param_ids

pub record Accepted (h : List ℕ) : Type 0 where
  pub value : ClientHello
  pub is : read h ≡ result value

pub record Alike (a b : List ℕ) : Type 0 where
  pub first : Accepted a
  pub second : Accepted b
  pub same : Same (likeness (report first.value)) (likeness (report second.value))
