-- `reports::names::put_protocols` meets its contract: the label and the names before the span stand in the output. Assumes nothing.
use mathlib.Core.Path.{refl}
use lib.ListN.{length}
use Rattle.fingerprint_lists.specs.Arrays.{span}
use Rattle.reports.specs.Lines.{each, alpn_label}
use Rattle.reports.specs.Code.{span_parts}
use Rattle.reports.proofs.PartLaws.{list-start, list-next, each_next}
use borrow.Author.Rules.{rules}
use Rattle.reports.proofs.names.put_protocols.Invariants.{parts}
use Rattle.reports.proofs.names.put_protocols.Goals as goal

pub loop-span-init : goal.loop-span-init
unfolding each
loop-span-init c =
    let args = c.args in
    let text = c.put_text-at in
    list-start alpn_label (parts args.hello.now args.spans.now) (length args.spans.now) text.result text.new.out refl (search rules)

pub loop-span-preserved : goal.loop-span-preserved
loop-span-preserved c =
    let args = c.args in
    let text = c.put_text-at in
    let l = c.loop-span in
    let range = c.put_range-at in
    list-next alpn_label (parts args.hello.now args.spans.now) (length args.spans.now) text.result text.new.out l.at l.span-index l.out l.invariant range.result _ range.new.out
    c.loop-span-test.true (each_next args.spans.now l.span-index (span 0 0) c.loop-span-test.true (span_parts args.hello.now)) range.auto.out range.ensures
