-- `reports::names::put_sni` meets its contract: the parts are those of the case that the name is. Assumes nothing.
use mathlib.Core.Path.{refl, sym, ap}
use mathlib.Core.List.{[], ◌∷◌}
use Rattle.std.specs.Prelude.{Option}
use Rattle.fingerprint_lists.specs.declared.Span.{Span}
use Rattle.script_writing.proofs.AnswerLaws.{all-as, written_one, written-more}
use Rattle.reports.specs.Lines.{name_label, none_word}
use Rattle.reports.specs.Code.{span_parts, sni_parts}
use Rattle.reports.proofs.names.put_sni.Goals as goal

pub returns-in-Some : goal.returns-in-Some
returns-in-Some c =
    let h = c.args.hello.now in
    let out = c.args.out.now in
    let s = c.in-Some.span in
    let label = c.put_text-n in
    let range = c.put_range in
    all-as (name_label ∷ span_parts h s) (name_label ∷ sni_parts h c.args.sni) _ out _ (ap (λ (x : Option Span). name_label ∷ sni_parts h x) (sym c.in-Some.is))
    (written-more (name_label ∷ []) (span_parts h s) label.result range.result _ out label.new.out range.new.out
    (written_one name_label label.result out label.new.out label.ensures) refl range.ensures)

pub returns-in-None : goal.returns-in-None
returns-in-None c =
    let h = c.args.hello.now in
    let out = c.args.out.now in
    let label = c.put_text-n in
    let word = c.put_text in
    all-as (name_label ∷ none_word ∷ []) (name_label ∷ sni_parts h c.args.sni) _ out _ (ap (λ (x : Option Span). name_label ∷ sni_parts h x) (sym c.in-None.is))
    (written-more (name_label ∷ []) (none_word ∷ []) label.result word.result _ out label.new.out word.new.out
    (written_one name_label label.result out label.new.out label.ensures) refl
    (written_one none_word word.result _ word.new.out word.ensures))
