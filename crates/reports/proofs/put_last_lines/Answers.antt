-- `reports::put_last_lines` meets its contract: three lines are written, one after the other. Assumes nothing.
use mathlib.Core.Path.{ap}
use Prim.Native.Nat.{ℕ}
use mathlib.Core.List.{List, ◌∷◌, ◌++◌, map, append_assoc}
use lib.ListN.{take}
use Rattle.script_writing.specs.Hex.{id_text}
use Rattle.fingerprint_lists.specs.declared.Span.{Span}
use Rattle.fingerprint.proofs.ShownLaws.{protocols-lie}
use Rattle.script_writing.proofs.AnswerLaws.{all-as, written_then}
use Rattle.reports.specs.Code.{span_parts, sni_parts}
use Rattle.reports.specs.Lines.{each, alpn_label, name_label, parameters_label, last_lines}
use Rattle.reports.proofs.PartLaws.{list-of}
use Rattle.reports.proofs.put_last_lines.Goals as goal

pub put_protocols-at-requires : goal.put_protocols-at-requires
put_protocols-at-requires c = protocols-lie c.requires c.protocols.ensures.0

pub put_sni-at-requires : goal.put_sni-at-requires
put_sni-at-requires c = c.requires.sni-inside

pub returns : goal.returns
unfolding last_lines
returns c =
    let f = c.args.report.now in
    let h = c.args.hello.now in
    let a : List (List ℕ) = alpn_label ∷ each (span_parts h) (take f.alpn_count f.alpn) in
    let b : List (List ℕ) = name_label ∷ sni_parts h f.sni in
    let d : List (List ℕ) = parameters_label ∷ map id_text (take f.id_count f.transport_param_ids) in
    let names =
    all-as _ a _ c.args.out.now _ (ap (λ (l : List Span). alpn_label ∷ each (span_parts h) l) c.protocols.ensures.0) c.put_protocols-at.ensures in
    all-as ((a ++ b) ++ d) (a ++ (b ++ d)) _ c.args.out.now _ (append_assoc a b d)
    (written_then (written_then names c.put_sni-at.ensures) (list-of id_text c.ids.ensures.0 c.put_list-at.ensures))
