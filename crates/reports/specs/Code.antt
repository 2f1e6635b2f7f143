-- What is written of the report as the code hands it out: arrays with counts, and names as parts of the hello.
use Rattle.std.specs.Prelude.{ℕ, ◌+◌, List, [], ◌∷◌, ◌++◌, take, drop, Option, Some, None}
use Rattle.fingerprint_lists.specs.declared.Span.{Span}
use Rattle.fingerprint_lists.specs.Arrays.{Types}
use Rattle.fingerprint.specs.InRange.{type_numbers, group_numbers}
use Rattle.fingerprint.specs.declared.Fingerprint.{Fingerprint}
use Rattle.reports.specs.Lines.{none_word, range_parts, each, first_lines, list_lines, last_lines, set_text}

-- a part of the hello: its range, and the name that it holds
abbrev pub span_parts : List ℕ → Span → List (List ℕ)
span_parts h s = range_parts s.start (s.start + s.length) (take s.length (drop s.start h))

abbrev pub sni_parts : List ℕ → Option Span → List (List ℕ)
sni_parts h (Some s) = span_parts h s
sni_parts h None = none_word ∷ []

abbrev pub first_parts : Fingerprint → List (List ℕ)
first_parts f =
    first_lines f.legacy_session_id_len (take f.suite_count f.cipher_suites) (type_numbers f.extensions f.extension_count)

abbrev pub list_parts : Fingerprint → List (List ℕ)
list_parts f =
    list_lines (group_numbers f.supported_groups f.group_count) (group_numbers f.key_share_groups f.share_count)
    (take f.algorithm_count f.signature_algorithms) (take f.version_count f.supported_versions)

abbrev pub last_parts : List ℕ → Fingerprint → List (List ℕ)
last_parts h f =
    last_lines (each (span_parts h) (take f.alpn_count f.alpn)) (sni_parts h f.sni) (take f.id_count f.transport_param_ids)

unfoldable pub report_parts : List ℕ → Fingerprint → List (List ℕ)
report_parts h f = first_parts f ++ (list_parts f ++ last_parts h f)

abbrev pub set_parts : Types → List (List ℕ)
set_parts t = set_text (type_numbers t.items t.count)
