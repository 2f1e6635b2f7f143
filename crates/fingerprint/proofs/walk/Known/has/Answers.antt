-- A type without its mark is among none. Assumes nothing.
use mathlib.Core.Path.{◌∙◌, sym, ap}
use Prim.Native.Nat.{ℕ, ◌%◌}
use lib.ListN.{get_or}
use mathlib.Core.Bool.{false}
use Rattle.fingerprint_parameters.proofs.MarkLaws.{unmarked-new}
use Rattle.fingerprint_parameters.proofs.MemberLaws.{contains-member}
use Rattle.fingerprint.proofs.walk.Known.has.Goals as goal

pub returns-then-has : goal.returns-then-has
returns-then-has c = c.contains.ensures.value ∙ contains-member c.args.t c.args.self.now.types.now

pub returns-else-has : goal.returns-else-has
returns-else-has c =
    let known = c.args.self.now in
    let no-mark = ap (λ (n : ℕ). get_or known.marks.now.rests (n % 64) false) (sym c.from.ensures) ∙ sym c.has.ensures ∙ c.if-has.false in
    c.if-has.false ∙ sym (unmarked-new known.marks.now.rests known.types.now c.args.t known.marked no-mark)
