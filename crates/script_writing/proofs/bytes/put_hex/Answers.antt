-- `put_hex` meets its contract: the digits of the bytes passed stand at the front of the output. Assumes nothing.
use Prim.Native.Nat.{ℕ, ◌*◌}
use mathlib.Core.Path.{◌≡◌, refl, sym, ap, ◌∙◌}
use mathlib.Core.List.{List}
use native.Mathlib.Omega.{arith}
use lib.ListN.{length, take, get_or}
use lib.Seq.{take_all, length-take-le}
use Rattle.wire.specs.Front.{front}
use Rattle.wire.proofs.FrontLaws.{front-none, lent-front}
use Rattle.script_writing.specs.Hex.{hex_pair, hex_text}
use Rattle.script_writing.proofs.HexLaws.{length-hex_text, hex_text-more}
use Rattle.script_writing.proofs.ShownLaws.{written, not_written}
use Rattle.script_writing.proofs.bytes.put_hex.Goals as goal

pub returns-then-out-bytes : goal.returns-then-out-bytes
returns-then-out-bytes c =
    not_written (hex_text c.args.bytes.now) c.args.out.now (omega (arith, length-hex_text c.args.bytes.now))

pub loop-i-init : goal.loop-i-init
unfolding hex_text
loop-i-init c = front-none _

pub loop-i-preserved : goal.loop-i-preserved
loop-i-preserved c =
    let l = c.loop-i in
    let s = c.args.bytes.now in
    let w = c.put_pair in
    let long : length (hex_text (take l.i s)) ≡ 2 * l.i = length-hex_text (take l.i s) ∙ ap (λ (k : ℕ). 2 * k) (length-take-le l.i s (omega arith)) in
    let one = lent-front (hex_text (take l.i s)) (hex_pair (get_or s l.i 0)) c.args.out.now l.out w.new.out (2 * l.i) _ long l.invariant refl w.ensures in
    one ∙ ap (λ (t : List ℕ). front t c.args.out.now) (sym (hex_text-more l.i s (omega arith)))

pub returns : goal.returns
returns c =
    let s = c.args.bytes.now in
    let l = c.loop-i in
    written (hex_text s) _ c.args.out.now l.out (omega (arith, length-hex_text s)) (omega (arith, length-hex_text s))
    (l.invariant ∙ ap (λ (t : List ℕ). front (hex_text t) c.args.out.now) (take_all l.i s (omega arith)))
