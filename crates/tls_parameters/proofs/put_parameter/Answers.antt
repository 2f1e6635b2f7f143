-- Each kind of parameter has its writer. Assumes nothing.
use Rattle.profiles.specs.Sizes.{parameter_draws}
use Rattle.tls_parameters.specs.Parameters.{resolve}
use Rattle.tls_parameters.proofs.ParameterLaws.{value-small}
use Rattle.tls_parameters.proofs.put_parameter.Goals as goal

pub put_number-requires : goal.put_number-requires
unfolding resolve
put_number-requires c =
    let pre = c.requires in
    let room = rw c.in-Varint.is at pre in
    (room.varints.0, room.varints.1, room.fits)

pub put_value-requires : goal.put_value-requires
unfolding resolve
put_value-requires c =
    let pre = c.requires in
    let room = rw c.in-Bytes.is at pre in
    (room.varints, value-small _ _ room.small, room.fits)

pub put_version_info-requires : goal.put_version_info-requires
unfolding resolve parameter_draws
put_version_info-requires c =
    let pre = c.requires in
    let room = rw c.in-VersionInfo.is at pre in
    (room.varints, room.there, room.fits)

pub put_value-requires-in-ScidSource : goal.put_value-requires-in-ScidSource
unfolding resolve
put_value-requires-in-ScidSource c =
    let pre = c.requires in
    let room = rw c.in-ScidSource.is at pre in
    (room.varints, value-small _ _ room.small, room.fits)

pub put_grease-requires : goal.put_grease-requires
unfolding resolve parameter_draws
put_grease-requires c =
    let pre = c.requires in
    let room = rw c.in-Grease.is at pre in
    (room.there, room.fits)

pub returns-in-Varint : goal.returns-in-Varint
unfolding resolve
returns-in-Varint c = rw c.in-Varint.is c.put_number.ensures

pub returns-in-Bytes : goal.returns-in-Bytes
unfolding resolve
returns-in-Bytes c = rw c.in-Bytes.is c.put_value.ensures

pub returns-in-VersionInfo : goal.returns-in-VersionInfo
unfolding resolve
returns-in-VersionInfo c = rw c.in-VersionInfo.is c.put_version_info.ensures

pub returns-in-ScidSource : goal.returns-in-ScidSource
unfolding resolve
returns-in-ScidSource c = rw c.in-ScidSource.is c.put_value-in-ScidSource.ensures

pub returns-in-Grease : goal.returns-in-Grease
unfolding resolve
returns-in-Grease c = rw c.in-Grease.is c.put_grease.ensures
