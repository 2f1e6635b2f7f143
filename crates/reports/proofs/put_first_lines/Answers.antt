-- `reports::put_first_lines` meets its contract: three lines are written, one after the other. Assumes nothing.
use Prim.Native.Nat.{ℕ}
use mathlib.Core.List.{List, [], ◌∷◌, ◌++◌, map, append_assoc}
use lib.ListN.{take}
use Rattle.script_writing.specs.Hex.{word_text}
use Rattle.script_writing.specs.Decimal.{decimal_text}
use Rattle.fingerprint.specs.InRange.{type_numbers}
use Rattle.script_writing.proofs.AnswerLaws.{all-as, written_then}
use Rattle.fingerprint.specs.Code.{type_number}
use Rattle.reports.specs.Lines.{session_label, suites_label, extensions_label, first_lines}
use Rattle.reports.proofs.PartLaws.{by-number, list-of}
use Rattle.reports.proofs.put_first_lines.Goals as goal

pub returns : goal.returns
unfolding first_lines
returns c =
    let f = c.args.report.now in
    let types =
    by-number extensions_label word_text type_number (take f.extension_count f.extensions)
    (list-of (λ t. word_text (type_number t)) c.extensions.ensures.0 c.put_list-at-2.ensures) in
    let a : List (List ℕ) = session_label ∷ decimal_text f.legacy_session_id_len ∷ [] in
    let b : List (List ℕ) = suites_label ∷ map word_text (take f.suite_count f.cipher_suites) in
    let d : List (List ℕ) = extensions_label ∷ map word_text (type_numbers f.extensions f.extension_count) in
    all-as ((a ++ b) ++ d) (a ++ (b ++ d)) _ c.args.out.now _ (append_assoc a b d)
    (written_then (written_then c.put_number-at.ensures (list-of word_text c.suites.ensures.0 c.put_list-at.ensures)) types)
