-- `reports::names::put_protocols` meets its contract: the label and the names before the span stand in the output. Assumes nothing.
use Prim.Native.Nat.{ℕ}
use Rattle.reports.specs.Lines.{alpn_label, each}
use mathlib.Core.List.{List}
use lib.ListN.{length, take}
use Rattle.fingerprint_lists.specs.declared.Span.{Span}
use Rattle.reports.specs.Code.{span_parts}
use Rattle.reports.proofs.PartLaws.{Listed}
use Rattle.reports.proofs.names.put_protocols.Given as goal

abbrev pub parts : List ℕ → List Span → ℕ → List (List ℕ)
parts h spans i = each (span_parts h) (take i spans)

abbrev pub invariant-loop-span : goal.invariant-loop-span
invariant-loop-span l = Listed alpn_label (parts l.hello l.spans) (length l.spans) l.initial.at l.initial.out l.at l.out l.span-index
