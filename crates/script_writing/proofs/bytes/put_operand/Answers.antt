-- `script_writing::bytes::put_operand` meets its contract: each test is one of the definition's. Assumes nothing.
use Prim.Native.Nat.{◌-◌, ◌<◌}
use mathlib.Core.List.{[], ◌∷◌}
use native.Mathlib.Omega.{arith}
use lib.ListN.{length, take}
use lib.Seq.{length-take-le}
use Rattle.script.specs.Scan.{dash}
use Rattle.script_writing.specs.Hex.{hex_text}
use Rattle.script_writing.specs.Shown.{last_byte, run_text, joined_text, shown_text}
use Rattle.script_writing.proofs.ShownLaws.{written_as, shown-none, shown-hex, shown-run, shown-joined}
use Rattle.script_writing.proofs.bytes.put_operand.Goals as goal

pub returns-then-n-eq0 : goal.returns-then-n-eq0
returns-then-n-eq0 c =
    let start = c in
    written_as (dash ∷ []) (shown_text start.args.bytes.now) c.put_text.result start.args.out.now
    c.put_text.new.out (shown-none start.args.bytes.now c.if-n-eq0.true)
    c.put_text.ensures

pub returns-then-run-lt8 : goal.returns-then-run-lt8
returns-then-run-lt8 c =
    let start = c in
    let trailing-run = c.trailing_run-run in
    written_as (hex_text start.args.bytes.now) (shown_text start.args.bytes.now) c.put_hex.result
    start.args.out.now c.put_hex.new.out
    (shown-hex start.args.bytes.now trailing-run.result c.if-n-eq0.false
    trailing-run.ensures.0 (omega (arith, c.if-run-lt8.true))) c.put_hex.ensures

pub returns-then-head-eq0 : goal.returns-then-head-eq0
returns-then-head-eq0 c =
    let start = c in
    let trailing-run = c.trailing_run-run in
    let s = start.args.bytes.now in
    let k = trailing-run.result in
    written_as (run_text k (last_byte s)) (shown_text s) c.put_run.result start.args.out.now
    c.put_run.new.out
    (shown-run s k c.if-n-eq0.false trailing-run.ensures.0
    c.if-run-lt8.false c.if-head-eq0.true)
    c.put_run.ensures

pub returns : goal.returns
returns c =
    let start = c in
    let trailing-run = c.trailing_run-run in
    let s = start.args.bytes.now in
    let k = trailing-run.result in
    let n : 0 < length (take (length s - k) s) = omega
    (arith, length-take-le (length s - k) s (omega arith), c.if-head-eq0.false) in
    written_as (joined_text (take (length s - k) s) (run_text k (last_byte s))) (shown_text s) c.put_joined.result
    start.args.out.now c.put_joined.new.out
    (shown-joined s k c.if-n-eq0.false trailing-run.ensures.0
    c.if-run-lt8.false n) c.put_joined.ensures
