-- `script_writing::bytes::put_run` meets its contract: the number, the star and the two digits are written one after the other. Assumes nothing.
use Prim.Native.Nat.{◌+◌}
use mathlib.Core.Path.{◌≡◌, sym, ◌∙◌}
use native.Mathlib.Omega.{arith}
use lib.ListN.{length}
use Rattle.script.specs.Scan.{star}
use Rattle.script_writing.specs.Decimal.{decimal_text}
use Rattle.script_writing.specs.Hex.{hex_pair}
use Rattle.script_writing.specs.Shown.{run_text}
use Rattle.script_writing.proofs.DigitLaws.{length-decimal_text}
use Rattle.script_writing.proofs.ShownLaws.{written, not_written, was-written, stored-lent, length-run_text}
use Rattle.script_writing.proofs.bytes.put_run.Goals as goal

pub returns-then-out-width : goal.returns-then-out-width
returns-then-out-width c =
    let args = c.args in
    not_written (run_text args.times args.byte) args.out.now
    (omega (arith, length-run_text args.times args.byte, c.decimal_width-width.ensures.0, c.if-out-width.true))

pub returns : goal.returns
unfolding run_text
returns c =
    let args = c.args in
    let old = args.out.now in
    let t = args.times in
    let number = c.put_decimal in
    let pair = c.put_pair in
    let fits = c.if-out-width.false in
    let w = c.decimal_width-width.result in
    let width = c.decimal_width-width.ensures.0 in
    let long : length (decimal_text t) ≡ w = length-decimal_text t ∙ sym width in
    let all = length-run_text t args.byte in
    let first = was-written (decimal_text t) number.result old number.new.out number.ensures (omega (arith, long, fits)) in
    written (run_text t args.byte) (w + 3) old _ (omega (arith, all, width, fits)) (omega (arith, all, width))
    (stored-lent number.new.out pair.new.out star w (decimal_text t) (hex_pair args.byte) old long (omega (arith, fits)) first.output pair.ensures)
