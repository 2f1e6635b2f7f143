-- `ext_types` fills the array with one type after the other. Assumes nothing.
use mathlib.Core.List.{map}
use lib.ListN.{drop}
use Rattle.fingerprint_lists.specs.Arrays.{ext_type}
use Rattle.fingerprint_lists.proofs.FillLaws.{Filled}
use Rattle.fingerprint.proofs.report.ext_types.Given as goal

abbrev pub invariant-loop-i : goal.invariant-loop-i
invariant-loop-i l = Filled 64 (ext_type 0) (map ext_type l.numbers) l.i l.types (map ext_type (drop l.i l.numbers))
