-- The report of a ClientHello: "the fields of `Fingerprint`", and the form in which the code hands them out.
use Rattle.std.specs.Prelude.{ℕ, ◌+◌, ◌*◌, ◌≤◌, ◌≡◌, cond, List, [], ◌∷◌, ◌++◌, map, length, take, drop, eqb, Some, None}
use Rattle.std.specs.Prelude as std
use Rattle.std.proofs.Math.Option.{Option, none, some}
use Rattle.wire.specs.Answer.{Answer, result, refused, Told, told}
use Rattle.wire.specs.Refusals.{question}
use Rattle.wire.specs.declared.refusals.Refusal.{Refusal}
use Rattle.fingerprint_bodies.specs.Body.{Body, server-name, supported-groups, signature-algorithms, application-protocols, supported-versions, key-shares, transport-parameters, unread, encode_body}
use Rattle.fingerprint_bodies.specs.Forms.{group_of, id_of}
use Rattle.fingerprint_lists.specs.declared.Span.{Span}
use Rattle.fingerprint_lists.specs.Arrays.{ext_type, group, span, padded, Part, part, span_of, placed}
use Rattle.fingerprint.specs.ClientHello.{Extension, ClientHello, type_of}
use Rattle.fingerprint.specs.declared.Fingerprint.{Fingerprint}

pub record Report : Type 0 where
  pub session_id_length : ℕ
  pub cipher_suites : List ℕ
  pub extensions : List ℕ
  pub supported_groups : List ℕ
  pub key_share_groups : List ℕ
  pub signature_algorithms : List ℕ
  pub supported_versions : List ℕ
  pub alpn : List Part
  pub sni : Option Part
  pub transport_param_ids : List ℕ

-- ---- What a body holds; it stands at a place of the hello, which its names tell

-- numbers: of key shares their groups, of transport parameters their ids
unfoldable pub numbers_in : ℕ → Body → List ℕ
numbers_in at (server-name n) = []
numbers_in at (supported-groups l) = l
numbers_in at (signature-algorithms l) = l
numbers_in at (application-protocols l) = []
numbers_in at (supported-versions l) = l
numbers_in at (key-shares l) = map group_of l
numbers_in at (transport-parameters l) = map id_of l
numbers_in at (unread b) = []

-- names: that of a server stands after 2 bytes of list length, 1 of type and 2 of its own length, the first protocol's length after 2
-- bytes of list length
unfoldable pub names_in : ℕ → Body → List Part
names_in at (server-name n) = part (at + 5) n ∷ []
names_in at (supported-groups l) = []
names_in at (signature-algorithms l) = []
names_in at (application-protocols l) = placed (at + 2) l
names_in at (supported-versions l) = []
names_in at (key-shares l) = []
names_in at (transport-parameters l) = []
names_in at (unread b) = []

-- ---- The report

-- what the extensions of a type hold, one after the other; the first extension stands at a place of the hello
unfoldable pub gathered : {A : Type 0} → (ℕ → Body → List A) → ℕ → ℕ → List Extension → List A
gathered f t at [] = []
gathered f t at (e ∷ es) = cond (eqb t e.type) (f (at + 4) e.body) [] ++ gathered f t (at + 4 + length (encode_body e.body)) es

-- where the first extension stands
unfoldable pub block_place : ClientHello → ℕ
block_place v = 44 + length v.session_id + 2 * length v.cipher_suites + length v.compression

unfoldable pub first_of : {A : Type 0} → List A → Option A
first_of [] = none
first_of (x ∷ xs) = some x

unfoldable pub report : ClientHello → Report
report v =
    let at = block_place v in
    record {
      session_id_length = length v.session_id;
      cipher_suites = v.cipher_suites;
      extensions = map type_of v.extensions;
      supported_groups = gathered numbers_in 0x000a at v.extensions;
      key_share_groups = gathered numbers_in 0x0033 at v.extensions;
      signature_algorithms = gathered numbers_in 0x000d at v.extensions;
      supported_versions = gathered numbers_in 0x002b at v.extensions;
      alpn = gathered names_in 0x0010 at v.extensions;
      sni = first_of (gathered names_in 0x0000 at v.extensions);
      transport_param_ids = gathered numbers_in 0x0039 at v.extensions;
    }

-- "zero counts, an empty report"
abbrev pub empty_report : Report
empty_report = record {
  session_id_length = 0;
  cipher_suites = [];
  extensions = [];
  supported_groups = [];
  key_share_groups = [];
  signature_algorithms = [];
  supported_versions = [];
  alpn = [];
  sni = none;
  transport_param_ids = [];
}

-- a part lies inside the hello, and its bytes are the hello's there
pub record Lies (h : List ℕ) (p : Part) : Type 0 where
  pub inside : p.start + length p.bytes ≤ length h
  pub is : take (length p.bytes) (drop p.start h) ≡ p.bytes

-- ---- As the code hands it out: arrays with counts, zeros past each count, names as ranges

unfoldable pub sni_of : Option Part → std.Option Span
sni_of none = None
sni_of (some p) = Some (span_of p)

unfoldable pub shown : Report → Fingerprint
shown r = record {
  legacy_session_id_len = r.session_id_length;
  cipher_suites = padded 64 0 r.cipher_suites;
  suite_count = length r.cipher_suites;
  extensions = padded 64 (ext_type 0) (map ext_type r.extensions);
  extension_count = length r.extensions;
  supported_groups = padded 64 (group 0) (map group r.supported_groups);
  group_count = length r.supported_groups;
  key_share_groups = padded 64 (group 0) (map group r.key_share_groups);
  share_count = length r.key_share_groups;
  signature_algorithms = padded 64 0 r.signature_algorithms;
  algorithm_count = length r.signature_algorithms;
  supported_versions = padded 64 0 r.supported_versions;
  version_count = length r.supported_versions;
  alpn = padded 16 (span 0 0) (map span_of r.alpn);
  alpn_count = length r.alpn;
  sni = sni_of r.sni;
  transport_param_ids = padded 64 0 r.transport_param_ids;
  id_count = length r.transport_param_ids;
}

-- the report of a hello that is accepted, as the code hands it out; of one that is refused, the refusal alone
unfoldable pub parsed_of : Answer ClientHello → Answer Fingerprint
parsed_of (result v) = result (shown (report v))
parsed_of (refused n) = refused n

-- the same in numbers: "A refusal carries its number, zero counts, an empty report."
abbrev pub told_report : Answer ClientHello → Told Fingerprint
told_report a = told (shown empty_report) (parsed_of a)

unfoldable pub number_of : Answer ClientHello → ℕ
number_of (result v) = 0
number_of (refused n) = n

-- the number of the refusal that the code answers, 0 where it answers none
abbrev pub refusal_number : std.Option Refusal → ℕ
refusal_number None = 0
refusal_number (Some e) = question e
