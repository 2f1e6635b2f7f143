-- Each extension of a made hello: its bytes are those of its value, and the value is well formed. Assumes nothing.
use Prim.Native.Nat.{ℕ, ◌+◌, ◌%◌, ◌≤◌, ◌<◌}
use mathlib.Core.Path.{◌≡◌, refl, sym, ap, ◌∙◌}
use mathlib.Core.Bool.{Bool, true, false, cond}
use mathlib.Core.List.{List, [], ◌∷◌, ◌++◌}
use native.Mathlib.Omega.{arith}
use lib.ListN.{length, drop}
use lib.Dec.{eqb, ltb, lit<}
use Rattle.wire.specs.Numbers.{Bytes, digits}
use Rattle.wire.specs.Vectors.{vector, words, protocols, extension}
use Rattle.wire.proofs.NumberLaws.{bytes_drop}
use Rattle.wire.proofs.VectorLaws.{length-vector}
use Rattle.wire.proofs.SumLaws.{and_left, and_right}
use Rattle.profiles.specs.Profile.{Profile}
use Rattle.profiles.specs.Test.{all, known}
use Rattle.profiles.proofs.TestLaws.{Words, Passed, name_ok, name-ok, all-below}
use Rattle.tape.specs.Tape.{rand_bytes, next_u64, payload_length}
use Rattle.tape.specs.Part.{Part, undrawn}
use Rattle.tls_extensions.specs.Extensions
use Rattle.tls_extensions.proofs.LengthLaws.{length-extension}
use Rattle.tls_parameters.specs.Parameters.{sent_parameters, ext_quic_tp}
use Rattle.tls.specs.Hello.{build_extension}
use Rattle.tls.proofs.Sent.{sent-shaped}
use Rattle.fingerprint_bodies.specs.Body as b
use Rattle.fingerprint_bodies.specs.Body.{Kind, kind, kind_of, encode_shares, encode_body}
use Rattle.fingerprint_bodies.specs.Conditions.{All, FormedWords, FormedName, FormedEntry, FormedBody}
use Rattle.fingerprint.specs.ClientHello.{encode_extension, FormedExtension}
use Rattle.laws_read_back.specs.Shown.{Asked}
use Rattle.laws_read_back.proofs.ByteLaws.{bytes-nil, bytes-cons, bytes-append, bytes-vector, bytes-extension, bytes-drawn}
use Rattle.laws_read_back.proofs.Value.{made_shares, made_body, made_extension}
use Rattle.laws_read_back.proofs.ShareLaws.{shares-bytes, formed-shares}
use Rattle.laws_read_back.proofs.ParameterLaws.{parameters-bytes, formed-parameters}
use Rattle.laws_read_back.proofs.KindLaws.{Unread, kind-unread, by_kind}

-- ---- its bytes

-- what stands after type and length
after-head : (t : ℕ) (body : List ℕ) → drop 4 (extension t body) ≡ body
unfolding extension vector digits
after-head t body = refl

module _ (p : Profile) (host scid tape : List ℕ) where
  unread-bytes : (t at : ℕ) → known t ≡ true
      → extension t (drop 4 (build_extension p host scid tape t at).bytes) ≡ (build_extension p host scid tape t at).bytes
  unread-bytes t at h =
      let shape = sent-shaped p host scid tape t at h in
      rw (shape.is, after-head t shape.body)

  pub extension-bytes : (t at : ℕ) → known t ≡ true
      → encode_extension (made_extension p host scid tape t at) ≡ (build_extension p host scid tape t at).bytes
  unfolding
      encode_extension made_extension made_body encode_body kind build_extension Extensions.ext_server_name Extensions.ext_alpn Extensions.ext_u16_list
      Extensions.ext_supported_versions Extensions.ext_key_share ext_quic_tp
  extension-bytes t at =
      by_kind
      (λ t. known t ≡ true → encode_extension (made_extension p host scid tape t at) ≡ (build_extension p host scid tape t at).bytes)
      (λ h. refl)
      (λ h. refl)
      (λ h. refl)
      (λ h. refl)
      (λ h. refl)
      (λ h. ap (λ (l : List ℕ). extension 0x0033 (vector 2 l)) (shares-bytes p.key_share_groups tape at))
      (λ h. ap (λ (l : List ℕ). extension 0x0039 l) (parameters-bytes (sent_parameters p.quic_tp scid tape at)))
      (λ u k h. rw (kind-unread u k) (unread-bytes u at h))
      t

-- ---- a body that is not read: bytes

record ByteExtension (e : Part) : Type 0 where
  bytes : Bytes e.bytes

either : (b : Bool) (x y : Part) → ByteExtension x → ByteExtension y → ByteExtension (cond b x y)
either true x y h k = h
either false x y h k = k

-- one that is always the same
fixed : (bs : List ℕ) (at : ℕ) → all (λ x. ltb x 256) bs ≡ true → ByteExtension (undrawn bs at)
fixed bs at e = record { bytes = all-below 256 bs (lit< tt) e }

-- outer, and a drawn config id
config-bytes : (draw : ℕ) → Bytes (0x00 ∷ 0x00 ∷ 0x01 ∷ 0x00 ∷ 0x01 ∷ draw % 256 ∷ [])
unfolding all
config-bytes draw =
    let suite : List ℕ = 0x00 ∷ 0x00 ∷ 0x01 ∷ 0x00 ∷ 0x01 ∷ [] in
    bytes-append suite (draw % 256 ∷ []) (all-below 256 suite (lit< tt) refl) (bytes-cons (draw % 256) [] (omega arith) bytes-nil)

ech-bytes : (tape : List ℕ) (at : ℕ) → Bytes tape → ByteExtension (Extensions.ext_encrypted_client_hello tape at)
unfolding Extensions.ext_encrypted_client_hello
ech-bytes tape at drawn =
    let pay : ℕ = payload_length (next_u64 tape (at + 40)) in
    let config : List ℕ = 0x00 ∷ 0x00 ∷ 0x01 ∷ 0x00 ∷ 0x01 ∷ next_u64 tape at % 256 ∷ [] in
    let key : List ℕ = vector 2 (rand_bytes 32 tape (at + 8)) in
    let rest : List ℕ = vector 2 (rand_bytes pay tape (at + 48)) in
    record {
      bytes =
          bytes-extension 0xfe0d (config ++ (key ++ rest))
          (bytes-append config (key ++ rest) (config-bytes (next_u64 tape at))
          (bytes-append key rest (bytes-vector 2 (rand_bytes 32 tape (at + 8)) (bytes-drawn 32 tape (at + 8) drawn))
          (bytes-vector 2 (rand_bytes pay tape (at + 48)) (bytes-drawn pay tape (at + 48) drawn))));
    }

certificates-bytes : (firefox : Bool) (at : ℕ) → ByteExtension (undrawn (Extensions.ext_compress_cert firefox) at)
unfolding Extensions.ext_compress_cert extension vector words digits all
certificates-bytes true at = fixed _ at refl
certificates-bytes false at = fixed _ at refl

-- those whose bytes are the same in every hello
record ByteList (bs : List ℕ) : Type 0 where
  bytes : Bytes bs

closed : (bs : List ℕ) → all (λ x. ltb x 256) bs ≡ true → ByteList bs
closed bs e = record { bytes = all-below 256 bs (lit< tt) e }

pick : (b : Bool) (x y : List ℕ) → ByteList x → ByteList y → ByteList (cond b x y)
pick true x y h k = h
pick false x y h k = k

fixed-bytes : (t : ℕ) → ByteList (Extensions.fixed_extension t)
unfolding
    Extensions.fixed_extension Extensions.ext_psk_ke_modes Extensions.ext_record_size_limit Extensions.ext_reneg_info Extensions.ext_status_request
    Extensions.ext_extended_master_secret Extensions.ext_delegated_credentials Extensions.ext_application_settings Extensions.ext_u16_list extension
    vector words digits all
fixed-bytes t =
    pick (eqb t 0x002d) _ _ (closed _ refl)
    (pick (eqb t 0x001c) _ _ (closed _ refl)
    (pick (eqb t 0xff01) _ _ (closed _ refl)
    (pick (eqb t 0x0005) _ _ (closed _ refl)
    (pick (eqb t 0x0017) _ _ (closed _ refl)
    (pick (eqb t 0x0022) _ _ (closed _ refl)
    (pick (eqb t 0x44cd) _ _ (closed _ refl) (closed [] refl)))))))

unread-part : (p : Profile) (host scid tape : List ℕ) (t at : ℕ) → Bytes tape → Unread t → ByteExtension (build_extension p host scid tape t at)
unfolding build_extension
unread-part p host scid tape t at drawn u =
    rw (u.not-name, u.not-protocols, u.not-groups, u.not-algorithms, u.not-versions, u.not-shares, u.not-parameters)
    (either (eqb t 0x001b) _ _ (certificates-bytes p.firefox_compression at)
    (either (eqb t 0xfe0d) _ _ (ech-bytes tape at drawn)
    (record { bytes = (fixed-bytes t).bytes })))

-- ---- its form

pub formed-words : (l : List ℕ) → Words l → FormedWords l
formed-words l w = record { some = w.number.above; few = w.number.below; small = w.small }

formed-entry : (host : List ℕ) → 1 ≤ length host → length host ≤ 255 → Bytes host → FormedEntry host
formed-entry host some few bytes = record {
  name = record { some = some; fits = omega arith; bytes = bytes };
  fits = omega (arith, length-vector 2 host);
}

formed-each : (names : List (List ℕ)) → all name_ok names ≡ true → All (FormedName 1) names
unfolding all
formed-each [] e = tt
formed-each (n ∷ names) e =
    let ok = name-ok n (and_left (name_ok n) (all name_ok names) e) in (
      record { some = ok.0.above; fits = omega (arith, ok.0.below); bytes = ok.1 },
      formed-each names (and_right (name_ok n) (all name_ok names) e),
    )

kind-of-body : (p : Profile) (host scid tape : List ℕ) (k : Kind) (t at : ℕ) → kind_of (made_body p host scid tape k t at) ≡ k
unfolding kind_of made_body
kind-of-body p host scid tape b.name t at = refl
kind-of-body p host scid tape b.groups t at = refl
kind-of-body p host scid tape b.algorithms t at = refl
kind-of-body p host scid tape b.protocols t at = refl
kind-of-body p host scid tape b.versions t at = refl
kind-of-body p host scid tape b.shares t at = refl
kind-of-body p host scid tape b.parameters t at = refl
kind-of-body p host scid tape b.other t at = refl

module _ (p : Profile) (host scid tape : List ℕ) (asked : Asked p host scid tape) (facts : Passed p) where
  formed-body : (t at : ℕ) → length (encode_body (made_body p host scid tape (kind t) t at)) ≤ 16384 → FormedBody (made_body p host scid tape (kind t) t at)
  unfolding made_body encode_body kind
  formed-body t at =
      by_kind
      (λ t. length (encode_body (made_body p host scid tape (kind t) t at)) ≤ 16384 → FormedBody (made_body p host scid tape (kind t) t at))
      (λ h. formed-entry host asked.named asked.name-short asked.name-bytes)
      (λ h. formed-words p.supported_groups facts.groups)
      (λ h. formed-words p.signature_algorithms facts.algorithms)
      (λ h. record {
        some = facts.protocols.above;
        few = facts.protocols.below;
        each = formed-each p.alpn facts.protocols-ok;
        fits = omega (arith, h, length-vector 2 (protocols p.alpn));
      })
      (λ h. formed-words p.supported_versions facts.versions)
      (λ h.
      formed-shares tape asked.tape-bytes p.key_share_groups at facts.shares.number.below facts.shares.small
      (omega (arith, h, length-vector 2 (encode_shares (made_shares p.key_share_groups tape at)))))
      (λ h.
      formed-parameters p.quic_tp scid tape at facts.parameters-ok asked.scid-bytes asked.tape-bytes facts.parameters.below
      facts.ids-once
      (omega (arith, h, ap (λ (l : List ℕ). length l) (parameters-bytes (sent_parameters p.quic_tp scid tape at)))))
      (λ u k h. rw (kind-unread u k) (bytes_drop 4 (build_extension p host scid tape u at).bytes (unread-part p host scid tape u at asked.tape-bytes k).bytes))
      t

  pub formed-extension : (t at : ℕ) → t < 65536 → known t ≡ true → length (build_extension p host scid tape t at).bytes ≤ 16384
      → FormedExtension (made_extension p host scid tape t at)
  unfolding made_extension encode_extension
  formed-extension t at small there short =
      let body : b.Body = made_body p host scid tape (kind t) t at in
      let long : 4 + length (encode_body body) ≡ length (build_extension p host scid tape t at).bytes =
      sym (length-extension t (encode_body body)) ∙ ap (λ (l : List ℕ). length l) (extension-bytes p host scid tape t at there) in
      record {
        small = small;
        kinds = kind-of-body p host scid tape (kind t) t at;
        body = formed-body t at (omega arith);
        fits = omega arith;
      }
