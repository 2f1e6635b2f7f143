-- Each kind of parameter draws a fixed count, which computes. Assumes nothing.
use mathlib.Core.Path.{refl}
use lib.Dec.{lit≤}
use Rattle.profiles.specs.Sizes.{parameter_draws}
use Rattle.tls_parameters.proofs.parameter_draws.Goals as goal

pub returns-in-Varint : goal.returns-in-Varint
unfolding parameter_draws
returns-in-Varint c = rw c.in-Varint.is (refl, lit≤ tt)

pub returns-in-Bytes : goal.returns-in-Bytes
unfolding parameter_draws
returns-in-Bytes c = rw c.in-Bytes.is (refl, lit≤ tt)

pub returns-in-VersionInfo : goal.returns-in-VersionInfo
unfolding parameter_draws
returns-in-VersionInfo c = rw c.in-VersionInfo.is (refl, lit≤ tt)

pub returns-in-ScidSource : goal.returns-in-ScidSource
unfolding parameter_draws
returns-in-ScidSource c = rw c.in-ScidSource.is (refl, lit≤ tt)

pub returns-in-Grease : goal.returns-in-Grease
unfolding parameter_draws
returns-in-Grease c = rw c.in-Grease.is (refl, lit≤ tt)
