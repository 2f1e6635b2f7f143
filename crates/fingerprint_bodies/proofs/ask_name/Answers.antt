-- `ask_name` hands the list's bytes on where its length reaches exactly the end. Assumes nothing.
use mathlib.Core.Path.{sym, ap, ◌∙◌}
use mathlib.Core.Option.{Option}
use mathlib.Core.List.{List}
use Prim.Native.Nat.{ℕ}
use Rattle.wire.proofs.ListLaws.{part_to_end}
use Rattle.fingerprint_bodies.specs.Forms.{one_entry, server_name}
use Rattle.fingerprint_bodies.specs.Code.{formed}
use Rattle.fingerprint_bodies.proofs.FormLaws.{whole-reaches, after-whole, after-other}
use Rattle.fingerprint_bodies.proofs.ask_name.Goals as goal

pub slice_bounds-ask_entry-count : goal.slice_bounds-ask_entry-count
slice_bounds-ask_entry-count c = whole-reaches 2 c.args.body.now (sym c.is_whole.ensures ∙ c.if-is_whole.true)

pub slice_bounds-ask_entry-start : goal.slice_bounds-ask_entry-start
slice_bounds-ask_entry-start c = whole-reaches 2 c.args.body.now (sym c.is_whole.ensures ∙ c.if-is_whole.true)

pub returns-then-is_whole : goal.returns-then-is_whole
unfolding server_name
returns-then-is_whole c =
    let s = c.args.body.now in
    c.ask_entry.ensures
    ∙ ap (λ (l : List ℕ). formed (one_entry l)) (part_to_end s 2)
    ∙ sym (ap (λ (x : Option (List ℕ)). formed x) (after-whole 2 s one_entry (sym c.is_whole.ensures ∙ c.if-is_whole.true)))

pub returns : goal.returns
unfolding server_name formed
returns c =
    sym (ap (λ (x : Option (List ℕ)). formed x) (after-other 2 c.args.body.now one_entry (sym c.is_whole.ensures ∙ c.if-is_whole.false)))
