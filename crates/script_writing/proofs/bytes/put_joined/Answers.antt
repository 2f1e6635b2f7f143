-- `script_writing::bytes::put_joined` meets its contract: the hex, the plus and the run are written one after the other. Assumes nothing.
use Prim.Native.Nat.{◌+◌, ◌*◌, ◌≤◌}
use mathlib.Core.Path.{◌≡◌, sym, ◌∙◌}
use native.Mathlib.Omega.{arith}
use lib.ListN.{length, length-take, length-drop, length-set}
use Rattle.wire.specs.Front.{Put}
use Rattle.script.specs.Scan.{plus}
use Rattle.script_writing.specs.Hex.{hex_text}
use Rattle.script_writing.specs.Shown.{run_text, joined_text}
use Rattle.script_writing.proofs.HexLaws.{length-hex_text}
use Rattle.script_writing.proofs.ShownLaws.{written, not_written, was-written, stored-lent, length-run_text, length-joined-run}
use Rattle.script_writing.proofs.bytes.put_joined.Goals as goal
use Rattle.script_writing.proofs.bytes.put_joined.Goals.{After-put_hex-at}

-- the hex was written
hex : (c : After-put_hex-at)
    → Put (hex_text c.args.head.now) c.put_hex-at.result c.args.out.now c.put_hex-at.new.out
hex c =
    let start = c in
    was-written (hex_text start.args.head.now) c.put_hex-at.result start.args.out.now c.put_hex-at.new.out c.put_hex-at.ensures
    (omega (arith, length-hex_text start.args.head.now, c.if-out-after.false, c.if-out-after-2.false))

place : (c : After-put_hex-at)
    → c.put_hex-at.result ≡ 2 * length c.args.head.now
place c =
    let start = c in
    (hex c).count ∙ length-hex_text start.args.head.now

pub returns-then-out-after : goal.returns-then-out-after
returns-then-out-after c =
    let start = c in
    not_written (joined_text start.args.head.now (run_text start.args.times start.args.byte)) start.args.out.now
    (omega (
      arith,
      length-joined-run start.args.head.now start.args.times start.args.byte c.decimal_width-after.result
          c.decimal_width-after.ensures.0,
      c.if-out-after.true,
    ))

pub returns-then-out-after-2 : goal.returns-then-out-after-2
returns-then-out-after-2 c =
    let start = c in
    not_written (joined_text start.args.head.now (run_text start.args.times start.args.byte)) start.args.out.now
    (omega (
      arith,
      length-joined-run start.args.head.now start.args.times start.args.byte c.decimal_width-after.result
          c.decimal_width-after.ensures.0,
      c.if-out-after.false,
      c.if-out-after-2.true,
    ))

pub bounds-out-at : goal.bounds-out-at
bounds-out-at c = omega (arith, place (goal.at.bounds-out-at c).After-put_hex-at, c.if-out-after.false, c.if-out-after-2.false)

pub slice_bounds-put_run-count : goal.slice_bounds-put_run-count
slice_bounds-put_run-count c = simp length-set (omega (arith, place (goal.at.slice_bounds-put_run-count c).After-put_hex-at, c.if-out-after.false, c.if-out-after-2.false))

pub slice_bounds-put_run-start : goal.slice_bounds-put_run-start
slice_bounds-put_run-start c = simp length-set (omega (arith, place (goal.at.slice_bounds-put_run-start c).After-put_hex-at, c.if-out-after.false, c.if-out-after-2.false))

pub returns : goal.returns
unfolding joined_text
returns c =
    let args = c.args in
    let old = args.out.now in
    let h = args.head.now in
    let text = run_text args.times args.byte in
    let width = c.decimal_width-after in
    let is = width.ensures.0 in
    let at = c.put_hex-at.result in
    let run = c.put_run in
    let p = hex (goal.at.returns c).After-put_hex-at in
    let w = place (goal.at.returns c).After-put_hex-at in
    let f : 2 * length h + (width.result + 4) ≤ length old = omega (arith, c.if-out-after.false, c.if-out-after-2.false) in
    let n = length-joined-run h args.times args.byte width.result is in
    let whole = was-written text run.result _ run.new.out run.ensures
    (simp (length-take, length-drop, length-set) (omega (arith, w, f, length-run_text args.times args.byte, is))) in
    written (joined_text h text) (at + (width.result + 4)) old _ (omega (arith, n, f)) (omega (arith, n, w))
    (stored-lent c.put_hex-at.new.out run.new.out plus at (hex_text h) text old (sym p.count) (omega (arith, w, f)) p.output whole.output)
