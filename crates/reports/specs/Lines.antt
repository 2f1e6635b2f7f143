-- The lines of a report, the answer of `name` and the answer of `set`, part by part, in the words of the script language.
use Rattle.std.specs.Prelude.{ℕ, ◌+◌, List, [], ◌∷◌, ◌++◌, map, length}
use Rattle.std.proofs.Math.Option.{Option, none, some}
use Rattle.script.specs.Scan.{text, space}
use Rattle.script_writing.specs.Decimal.{decimal_text}
use Rattle.script_writing.specs.Hex.{word_text, id_text}
use Rattle.script_writing.specs.Names.{name_text}
use Rattle.fingerprint_lists.specs.Arrays.{Part}
use Rattle.fingerprint.specs.Report.{Report}

-- ---- The words

abbrev pub session_label : List ℕ
session_label = text "report\n  session-id-length "

abbrev pub suites_label : List ℕ
suites_label = text "\n  cipher-suites"

abbrev pub extensions_label : List ℕ
extensions_label = text "\n  extensions"

abbrev pub groups_label : List ℕ
groups_label = text "\n  supported-groups"

abbrev pub shares_label : List ℕ
shares_label = text "\n  key-share-groups"

abbrev pub algorithms_label : List ℕ
algorithms_label = text "\n  signature-algorithms"

abbrev pub versions_label : List ℕ
versions_label = text "\n  supported-versions"

abbrev pub alpn_label : List ℕ
alpn_label = text "\n  alpn"

abbrev pub name_label : List ℕ
name_label = text "\n  name"

abbrev pub parameters_label : List ℕ
parameters_label = text "\n  transport-parameters"

abbrev pub none_word : List ℕ
none_word = text " none"

abbrev pub dots : List ℕ
dots = text ".."

abbrev pub types_word : List ℕ
types_word = text "types"

abbrev pub name_word : List ℕ
name_word = text "name "

-- ---- Names

-- "`A..B` is the range of the hello that holds the name, from A up to but not including B"
unfoldable pub range_parts : ℕ → ℕ → List ℕ → List (List ℕ)
range_parts from end name = (space ∷ []) ∷ decimal_text from ∷ dots ∷ decimal_text end ∷ (space ∷ []) ∷ name_text name ∷ []

abbrev pub part_parts : Part → List (List ℕ)
part_parts p = range_parts p.start (p.start + length p.bytes) p.bytes

-- the parts of each in turn
unfoldable pub each : {A : Type 0} → (A → List (List ℕ)) → List A → List (List ℕ)
each f [] = []
each f (x ∷ xs) = f x ++ each f xs

-- "no name is `name none`"
abbrev pub maybe_name : Option Part → List (List ℕ)
maybe_name none = none_word ∷ []
maybe_name (some p) = part_parts p

-- ---- The lines: "an empty list leaves the word alone"

-- what stands before the extensions, and their types
unfoldable pub first_lines : ℕ → List ℕ → List ℕ → List (List ℕ)
first_lines session suites types =
    (session_label ∷ decimal_text session ∷ []) ++ ((suites_label ∷ map word_text suites) ++ (extensions_label ∷ map word_text types))

-- the lists of numbers that extensions hold
unfoldable pub list_lines : List ℕ → List ℕ → List ℕ → List ℕ → List (List ℕ)
list_lines groups shares algorithms versions =
    (groups_label ∷ map word_text groups)
    ++ ((shares_label ∷ map word_text shares) ++ ((algorithms_label ∷ map word_text algorithms) ++ (versions_label ∷ map word_text versions)))

-- "several ALPN names stand one after the other, each with its range"
unfoldable pub last_lines : List (List ℕ) → List (List ℕ) → List ℕ → List (List ℕ)
last_lines protocols name ids = (alpn_label ∷ protocols) ++ ((name_label ∷ name) ++ (parameters_label ∷ map id_text ids))

-- `report HELLO`, of an accepted hello
unfoldable pub report_text : Report → List (List ℕ)
report_text r =
    first_lines r.session_id_length r.cipher_suites r.extensions
    ++ (list_lines r.supported_groups r.key_share_groups r.signature_algorithms r.supported_versions
    ++ last_lines (each part_parts r.alpn) (maybe_name r.sni) r.transport_param_ids)

-- `set HELLO`: "`types` and each type"
unfoldable pub set_text : List ℕ → List (List ℕ)
set_text types = types_word ∷ map word_text types

-- `name HELLO DEFAULT`
unfoldable pub name_answer : List ℕ → List (List ℕ)
name_answer name = name_word ∷ name_text name ∷ []
