use mathlib.Core.Path.{refl}
use Rattle.fingerprint_lists.specs.Arrays.{padded, types_of}
use Rattle.fingerprint.proofs.reading.no_types.Goals as goal

pub returns : goal.returns
unfolding types_of padded
returns c = refl
