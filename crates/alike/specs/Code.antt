-- What is compared of the report as the code hands it out: arrays with counts, and names as parts of the hello.
use Rattle.std.specs.Prelude.{ℕ, Bool, ◌&&◌, List, map, take, Some, None}
use Rattle.std.specs.Prelude as std
use Rattle.std.proofs.Math.Option.{Option, none, some}
use Rattle.wire.specs.Sums.{same_counts}
use Rattle.fingerprint_lists.specs.declared.Span.{Span}
use Rattle.fingerprint.specs.Code.{part_of}
use Rattle.fingerprint.specs.InRange.{type_numbers, group_numbers}
use Rattle.fingerprint.specs.declared.Fingerprint.{Fingerprint}
use Rattle.alike.specs.Alike.{alike_id, same_numbers}

abbrev pub name_of : List ℕ → std.Option Span → Option (List ℕ)
name_of h (Some s) = some (part_of h s)
name_of h None = none

abbrev pub names_of : List ℕ → List Span → List (List ℕ)
names_of h l = map (part_of h) l

unfoldable pub same_lists_of : Fingerprint → Fingerprint → Bool
same_lists_of x y =
    same_numbers (take x.suite_count x.cipher_suites) (take y.suite_count y.cipher_suites)
    && (same_numbers (group_numbers x.supported_groups x.group_count) (group_numbers y.supported_groups y.group_count)
    && (same_numbers (group_numbers x.key_share_groups x.share_count) (group_numbers y.key_share_groups y.share_count)
    && (same_numbers (take x.algorithm_count x.signature_algorithms) (take y.algorithm_count y.signature_algorithms)
    && same_numbers (take x.version_count x.supported_versions) (take y.version_count y.supported_versions))))

abbrev pub ids_of : Fingerprint → List ℕ
ids_of x = map alike_id (take x.id_count x.transport_param_ids)

unfoldable pub same_counts_of : Fingerprint → Fingerprint → Bool
same_counts_of x y =
    same_counts (type_numbers x.extensions x.extension_count) (type_numbers y.extensions y.extension_count)
    && same_counts (ids_of x) (ids_of y)
