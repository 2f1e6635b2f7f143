-- Each answer is that of the questions in their order, by the count and the ids that were read. Assumes nothing.
use mathlib.Core.Path.{◌≡◌, sym, ◌∙◌}
use Rattle.std.specs.Prelude.{Some, None}
use Rattle.std.proofs.lemmas.Result.{err_from_is_err_and}
use Rattle.wire.specs.declared.refusals.Refusal.TheVariants as no
use Rattle.fingerprint_parameters.specs.Code.{ids_of, Kept}
use Rattle.fingerprint_parameters.proofs.AskedLaws.{asked-cut, all_there, asked-good, asked-few, asked-many, asked_twice}
use native.Mathlib.Omega.{arith}
use Rattle.fingerprint_parameters.proofs.ask_parameters.Goals as goal
use Rattle.fingerprint_parameters.proofs.ask_parameters.Goals.{In_ok-k}

kept : (c : In_ok-k) → Kept (ids_of c.args.body.now) (Some c.in_ok-k.k) c.args.ids.now c.read_ids.new.ids
kept c = let there : c.read_ids.result ≡ Some c.in_ok-k.k = grind (arith, c.ok_or.ensures.value, c.in_ok-k.was) in rw there at c.read_ids.ensures

pub returns-in_err-k : goal.returns-in_err-k
returns-in_err-k c =
    let not-there : c.read_ids.result ≡ None = grind (arith, c.ok_or.ensures.value, c.in_err-k.was) in
    let p = err_from_is_err_and c.from_residual.result c.from_residual.ensures.1 in
    let malformed : p.0 ≡ no.ExtensionMalformed = grind (arith, p.2, c.ok_or.ensures.value, c.in_err-k.was) in
    rw (p.1, malformed) (asked-cut c.args.body.now _ _ c.told-ids (rw not-there at c.read_ids.ensures))

pub returns-then-all_new : goal.returns-then-all_new
returns-then-all_new c =
    asked-good c.args.body.now _ _ _ (kept (goal.at.returns-then-all_new c).In_ok-k) c.told-ids c.if-k-le64.true (sym c.all_new.ensures ∙ c.if-all_new.true)

pub returns-then-k-le64 : goal.returns-then-k-le64
returns-then-k-le64 c =
    asked-few c.args.body.now _ _ _ (kept (goal.at.returns-then-k-le64 c).In_ok-k) c.told-ids c.if-k-le64.true (sym c.all_new.ensures ∙ c.if-all_new.false)

pub ids_new-requires : goal.ids_new-requires
ids_new-requires c = all_there c.args.body.now _ _ _ (kept (goal.at.ids_new-requires c).In_ok-k)

pub returns-then-ids_new : goal.returns-then-ids_new
returns-then-ids_new c =
    asked-many c.args.body.now _ _ _ (kept (goal.at.returns-then-ids_new c).In_ok-k) c.told-ids c.if-k-le64.false
    (sym c.ids_new.ensures ∙ c.if-ids_new.true)

pub returns : goal.returns
returns c = asked_twice c.args.body.now _ _ _ (kept (goal.at.returns c).In_ok-k) c.told-ids (sym c.ids_new.ensures ∙ c.if-ids_new.false)
