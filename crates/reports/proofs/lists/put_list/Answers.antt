-- `put_list`: the label and the numbers before the item stand in the output. Assumes nothing.
use Prim.Native.Nat.{ℕ}
use mathlib.Core.Path.{refl, sym, ap, ◌∙◌}
use mathlib.Core.List.{List, [], ◌∷◌, ◌++◌}
use lib.ListN.{length}
use Rattle.std.proofs.lemmas.List.{map_more}
use Rattle.script_writing.proofs.AnswerLaws.{written_one}
use Rattle.reports.proofs.PartLaws.{list-start, list-next}
use borrow.Author.Rules.{rules}
use Rattle.reports.proofs.lists.put_list.Invariants.{parts}
use Rattle.reports.proofs.lists.put_list.Goals as goal

pub loop-item-init : goal.loop-item-init
loop-item-init g c =
    let args = c.args in
    let text = c.put_text-at in
    list-start args.label.now (parts g.T.Entry.text args.items.now) (length args.items.now) text.result text.new.out refl (search rules)

pub loop-item-preserved : goal.loop-item-preserved
loop-item-preserved g c =
    let args = c.args in
    let text = c.put_text-at in
    let l = c.loop-item in
    let put = c.put-at in
    let item = c.item-item in
    let items = args.items.now in
    let t : List ℕ = g.T.Entry.text item.result in
    let next =
    ap (λ x. parts g.T.Entry.text items l.item-index ++ (g.T.Entry.text x ∷ [])) item.is
    ∙ sym (map_more g.T.Entry.text items l.item-index item.result c.loop-item-test.true) in
    list-next args.label.now (parts g.T.Entry.text args.items.now) (length args.items.now) text.result text.new.out l.at l.item-index l.out l.invariant put.result (t ∷ []) put.new.out
    c.loop-item-test.true next put.auto.out (written_one t put.result _ put.new.out put.ensures)
