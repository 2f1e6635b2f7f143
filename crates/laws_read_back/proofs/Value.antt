-- The value whose encoding a made hello is, from the maker's own pieces. Assumes nothing.
use Prim.Native.Nat.{ℕ, ◌+◌}
use mathlib.Core.List.{List, [], ◌∷◌, map}
use lib.ListN.{length, drop}
use Rattle.wire.specs.Numbers.{digits}
use Rattle.varint.specs.Varint.{class}
use Rattle.profiles.specs.Profile.{Profile}
use Rattle.profiles.specs.Sizes.{key_draws, session_length, after_order}
use Rattle.tape.specs.Tape.{rand_bytes}
use Rattle.tls_extensions.specs.Extensions.{key_of}
use Rattle.tls_parameters.specs.Parameters.{Resolved, sent_parameters}
use Rattle.tls.specs.Hello.{build_extension, order}
use Rattle.fingerprint_bodies.specs.Body.{Share, Parameter, Body, server-name, supported-groups, signature-algorithms, application-protocols, supported-versions, key-shares, transport-parameters, unread, Kind, name, groups, algorithms, protocols, versions, shares, parameters, other, kind}
use Rattle.fingerprint.specs.ClientHello.{Extension, ClientHello}

-- each group with the key that is drawn for it
unfoldable pub made_shares : List ℕ → List ℕ → ℕ → List Share
made_shares [] tape at = []
made_shares (g ∷ gs) tape at = record { group = g; key = key_of g tape at } ∷ made_shares gs tape (at + key_draws g)

-- id and length in shortest varints
abbrev pub made_parameter : Resolved → Parameter
made_parameter r = record {
  id = record { class = class r.id; number = r.id };
  length_class = class (length r.value);
  value = r.value;
}

-- the body of the extension of type t, which draws from a place on; one that is not read is what stands after type and length
unfoldable pub made_body : Profile → List ℕ → List ℕ → List ℕ → Kind → ℕ → ℕ → Body
made_body p host scid tape name t at = server-name host
made_body p host scid tape groups t at = supported-groups p.supported_groups
made_body p host scid tape algorithms t at = signature-algorithms p.signature_algorithms
made_body p host scid tape protocols t at = application-protocols p.alpn
made_body p host scid tape versions t at = supported-versions p.supported_versions
made_body p host scid tape shares t at = key-shares (made_shares p.key_share_groups tape at)
made_body p host scid tape parameters t at = transport-parameters (map made_parameter (sent_parameters p.quic_tp scid tape at))
made_body p host scid tape other t at = unread (drop 4 (build_extension p host scid tape t at).bytes)

unfoldable pub made_extension : Profile → List ℕ → List ℕ → List ℕ → ℕ → ℕ → Extension
made_extension p host scid tape t at = record { type = t; body = made_body p host scid tape (kind t) t at }

-- in the order given, each drawing from where the last one stopped
unfoldable pub made_extensions : Profile → List ℕ → List ℕ → List ℕ → List ℕ → ℕ → List Extension
made_extensions p host scid tape [] at = []
made_extensions p host scid tape (t ∷ ts) at =
    made_extension p host scid tape t at ∷ made_extensions p host scid tape ts (build_extension p host scid tape t at).next

unfoldable pub made_value : Profile → List ℕ → List ℕ → List ℕ → ClientHello
made_value p host scid tape = record {
  version = digits 256 2 0x0303;
  random = rand_bytes 32 tape 0;
  session_id = rand_bytes (session_length p) tape 32;
  cipher_suites = p.cipher_suites;
  compression = 0x00 ∷ [];
  extensions = made_extensions p host scid tape (order p tape) (after_order p);
}
