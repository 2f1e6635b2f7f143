-- `trailing_run` meets its contract: what equals the last byte is counted from the end. Assumes nothing.
use Prim.Native.Nat.{◌-◌, zero-le}
use mathlib.Core.Path.{◌≡◌, ◌∙◌}
use native.Mathlib.Omega.{arith}
use lib.ListN.{length, get_or}
use borrow.Author.Rules.{rules}
use Rattle.script_writing.proofs.ShownLaws.{run_none, run_is, run-within}
use Rattle.script_writing.proofs.bytes.trailing_run.Goals as goal

pub returns-in-Some : goal.returns-in-Some
returns-in-Some c =
    let s = c.args.bytes.now in
    let last : c.in-Some.field-0.now ≡ get_or s (length s - 1) 0 = search rules in
    let e = c.equal_end.ensures ∙ run_is s c.in-Some.field-0.now last in
    (e, omega (arith, e, run-within s))

pub returns-in-None : goal.returns-in-None
returns-in-None c = (run_none c.args.bytes.now (omega (arith, c.in-None.ensures.item)), zero-le)
