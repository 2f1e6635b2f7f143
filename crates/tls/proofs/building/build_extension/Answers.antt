-- In each branch the type settles which extension the definition has, and the branch's writer gives that one. Assumes nothing.
use mathlib.Core.Path.{◌≡◌}
use mathlib.Core.List.{[], ◌∷◌, map}
use native.Mathlib.Omega.{arith}
use lib.ListN.{take, length-map}
use Rattle.std.proofs.lemmas.List.{map-id}
use Rattle.wire.specs.Sums.{total}
use Rattle.profiles.specs.Code.{group_number, profile_of}
use Rattle.tls_extensions.specs.Extensions.{ext_u16_list, ext_supported_versions, ext_encrypted_client_hello}
use Rattle.tls_extensions.proofs.LengthLaws.{length-server-name, length-alpn, length-u16-list, length-supported-versions, length-encrypted-client-hello}
use Rattle.tls.specs.Hello.{build_extension}
use Rattle.tls.proofs.BuildLaws.{length-first, protocol-short, own-varints, undrawn-puts, undrawn-room, build-fixed}
use Rattle.tls.proofs.building.build_extension.Goals as goal

pub ext_server_name-requires : goal.ext_server_name-requires
unfolding build_extension
ext_server_name-requires c =
    let e : c.args.t.0 ≡ 0 = omega arith in
    let room = rw e at c.requires.has in
    (undrawn-room (length-server-name c.args.name.now) room, omega (arith, c.requires.short_name))

pub returns-in-SERVER_NAME : goal.returns-in-SERVER_NAME
unfolding build_extension
returns-in-SERVER_NAME c =
    let e : c.args.t.0 ≡ 0 = omega arith in
    rw e (undrawn-puts c.ext_server_name.ensures c.still.ensures)

pub ext_alpn-requires : goal.ext_alpn-requires
unfolding build_extension total
ext_alpn-requires c =
    let e : c.args.t.0 ≡ 16 = omega arith in
    let p = c.args.profile.now in
    let room = rw e at c.requires.has in
    (omega (arith, room.fits, length-alpn (p.alpn ∷ [])), protocol-short p c.requires.sound)

pub returns-in-ALPN : goal.returns-in-ALPN
unfolding build_extension
returns-in-ALPN c =
    let e : c.args.t.0 ≡ 16 = omega arith in
    rw e (undrawn-puts c.ext_alpn.ensures c.still-in-ALPN.ensures)

pub ext_u16_list-requires : goal.ext_u16_list-requires
unfolding build_extension
ext_u16_list-requires c =
    let e : c.args.t.0 ≡ 10 = omega arith in
    let p = c.args.profile.now in
    let room = rw e at c.requires.has in
    let list = take p.group_count p.supported_groups in
    let few = length-first p.group_count p.supported_groups in
    rw c.groups.ensures (
      omega arith,
      omega (arith, room.fits, length-u16-list 10 (map group_number list), length-map list group_number),
      omega (arith, few, c.requires.sound.groups),
      omega (arith, few, c.requires.sound.groups),
    )

pub returns-in-SUPPORTED_GROUPS : goal.returns-in-SUPPORTED_GROUPS
unfolding build_extension ext_u16_list
returns-in-SUPPORTED_GROUPS c =
    let e : c.args.t.0 ≡ 10 = omega arith in
    rw e (undrawn-puts (rw (c.groups.ensures, e) at c.ext_u16_list.ensures) c.still-in-SUPPORTED_GROUPS.ensures)

pub ext_u16_list-requires-in-SIGNATURE_ALGORITHMS : goal.ext_u16_list-requires-in-SIGNATURE_ALGORITHMS
unfolding build_extension
ext_u16_list-requires-in-SIGNATURE_ALGORITHMS c =
    let e : c.args.t.0 ≡ 13 = omega arith in
    let p = c.args.profile.now in
    let room = rw e at c.requires.has in
    let list = take p.algorithm_count p.signature_algorithms in
    let few = length-first p.algorithm_count p.signature_algorithms in
    rw c.algorithms.ensures (
      omega arith,
      omega (arith, room.fits, length-u16-list 13 list),
      omega (arith, few, c.requires.sound.algorithms),
      omega (arith, few, c.requires.sound.algorithms),
    )

pub returns-in-SIGNATURE_ALGORITHMS : goal.returns-in-SIGNATURE_ALGORITHMS
unfolding build_extension ext_u16_list
returns-in-SIGNATURE_ALGORITHMS c =
    let e : c.args.t.0 ≡ 13 = omega arith in
    rw e (undrawn-puts (rw (c.algorithms.ensures, e, map-id) at c.ext_u16_list-in-SIGNATURE_ALGORITHMS.ensures) c.still-in-SIGNATURE_ALGORITHMS.ensures)

pub ext_u16_list-requires-in-SUPPORTED_VERSIONS : goal.ext_u16_list-requires-in-SUPPORTED_VERSIONS
unfolding build_extension
ext_u16_list-requires-in-SUPPORTED_VERSIONS c =
    let e : c.args.t.0 ≡ 43 = omega arith in
    let p = c.args.profile.now in
    let room = rw e at c.requires.has in
    let list = take p.version_count p.supported_versions in
    let few = length-first p.version_count p.supported_versions in
    rw c.versions.ensures (
      omega arith,
      omega (arith, room.fits, length-supported-versions list),
      omega (arith, few, c.requires.sound.versions),
      omega (arith, few, c.requires.sound.versions),
    )

pub returns-in-SUPPORTED_VERSIONS : goal.returns-in-SUPPORTED_VERSIONS
unfolding build_extension ext_supported_versions
returns-in-SUPPORTED_VERSIONS c =
    let e : c.args.t.0 ≡ 43 = omega arith in
    rw e (undrawn-puts (rw (c.versions.ensures, e, map-id) at c.ext_u16_list-in-SUPPORTED_VERSIONS.ensures) c.still-in-SUPPORTED_VERSIONS.ensures)

pub ext_key_share-requires : goal.ext_key_share-requires
unfolding build_extension
ext_key_share-requires c =
    let e : c.args.t.0 ≡ 51 = omega arith in
    let room = rw e at c.requires.has in
    rw c.shares.ensures room

pub returns-in-KEY_SHARE : goal.returns-in-KEY_SHARE
unfolding build_extension
returns-in-KEY_SHARE c =
    let e : c.args.t.0 ≡ 51 = omega arith in
    rw e (rw c.shares.ensures at c.ext_key_share.ensures)

pub ext_quic_tp-requires : goal.ext_quic_tp-requires
unfolding build_extension
ext_quic_tp-requires c =
    let e : c.args.t.0 ≡ 57 = omega arith in
    let p = c.args.profile.now in
    let room = rw e at c.requires.has in
    let few = length-first p.parameter_count p.quic_tp in
    rw c.parameters.ensures (omega (arith, few, c.requires.sound.parameters), own-varints p c.requires.sound, room)

pub returns-in-QUIC_TRANSPORT_PARAMS : goal.returns-in-QUIC_TRANSPORT_PARAMS
unfolding build_extension
returns-in-QUIC_TRANSPORT_PARAMS c =
    let e : c.args.t.0 ≡ 57 = omega arith in
    rw e (rw c.parameters.ensures at c.ext_quic_tp.ensures)

pub ext_compress_cert-requires : goal.ext_compress_cert-requires
unfolding build_extension
ext_compress_cert-requires c =
    let e : c.args.t.0 ≡ 27 = omega arith in
    let room = rw e at c.requires.has in
    room.fits

pub returns-in-COMPRESS_CERTIFICATE : goal.returns-in-COMPRESS_CERTIFICATE
unfolding build_extension
returns-in-COMPRESS_CERTIFICATE c =
    let e : c.args.t.0 ≡ 27 = omega arith in
    rw e (undrawn-puts c.ext_compress_cert.ensures c.still-in-COMPRESS_CERTIFICATE.ensures)

pub ext_encrypted_client_hello-requires : goal.ext_encrypted_client_hello-requires
unfolding build_extension ext_encrypted_client_hello
ext_encrypted_client_hello-requires c =
    let e : c.args.t.0 ≡ 65037 = omega arith in
    let room = rw e at c.requires.has in
    (omega (arith, room.fits, length-encrypted-client-hello c.args.tape.now c.args.at), room.there)

pub returns-in-ENCRYPTED_CLIENT_HELLO : goal.returns-in-ENCRYPTED_CLIENT_HELLO
unfolding build_extension
returns-in-ENCRYPTED_CLIENT_HELLO c =
    let e : c.args.t.0 ≡ 65037 = omega arith in
    rw e c.ext_encrypted_client_hello.ensures

pub ext_fixed-requires : goal.ext_fixed-requires
ext_fixed-requires c =
    let args = c.args in
    let room = rw (build-fixed (profile_of args.profile.now) args.name.now args.scid.now args.tape.now args.t.0 args.at
    (omega arith) (omega arith) (omega arith) (omega arith) (omega arith) (omega arith) (omega arith) (omega arith) (omega arith)) at c.requires.has in
    room.fits

pub returns-in_default : goal.returns-in_default
returns-in_default c =
    let args = c.args in
    rw (build-fixed (profile_of args.profile.now) args.name.now args.scid.now args.tape.now args.t.0 args.at
    (omega arith) (omega arith) (omega arith) (omega arith) (omega arith) (omega arith) (omega arith) (omega arith) (omega arith))
    (undrawn-puts c.ext_fixed.ensures c.still-in_default.ensures)
