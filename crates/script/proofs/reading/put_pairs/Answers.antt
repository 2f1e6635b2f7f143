-- `put_pairs` meets its contract: the bytes of the pairs passed stand at the front of the output, and the other pairs are left. Assumes nothing.
use Rattle.std.proofs.Common.{◌≡◌, ℕ, ◌+◌, ◌*◌, ◌<◌, List, length, get_or, drop, sym, ap, ◌∙◌, arith, rules, length-drop, take_all}
use Rattle.std.specs.Iterator.Adapters.{enumerate_source, enumerate_count}
use Rattle.std.specs.Slice.Iter.{chunks_exact_rest}
use Rattle.wire.specs.Front.{front}
use Rattle.wire.proofs.FrontLaws.{front-more}
use Rattle.script.specs.Hex.{pairs, hex_byte}
use Rattle.script.proofs.HexLaws.{length_pairs, pair-next}
use Rattle.script.proofs.reading.put_pairs.Goals as goal
use Rattle.script.proofs.reading.put_pairs.Goals.{In-Some}

pub loop-i-init : goal.loop-i-init
unfolding front
loop-i-init c = (search rules, search rules, search rules)

-- the pair that comes next
next : (c : In-Some) → let n = enumerate_count c.loop-i.i-iterator in
    let s = c.args.text.now in
    (n < length (pairs s)) × (hex_byte (get_or c.in-Some.pair.now 0 0) (get_or c.in-Some.pair.now 1 0) ≡ get_or (pairs s) n 0)
    × (chunks_exact_rest (enumerate_source c.next.new.self) ≡ drop (2 * (n + 1)) s)
next c =
    let steps = c.in-Some.ensures.steps in
    pair-next c.args.text.now c.in-Some.pair.now (chunks_exact_rest (enumerate_source c.next.new.self)) (enumerate_count c.loop-i.i-iterator)
    (sym c.loop-i.invariant.1 ∙ steps.0.1.0) (steps.0.1.1 ∙ c.loop-i.invariant.2)

pub bounds-out-i : goal.bounds-out-i
bounds-out-i c =
    let n = next (goal.at.bounds-out-i c).In-Some in
    omega (arith, c.in-Some.ensures.steps.1, n.0, c.requires.1, c.loop-i.auto.out)

pub loop-i-preserved : goal.loop-i-preserved
loop-i-preserved c =
    let s = c.args.text.now in
    let old = c.args.out.now in
    let n = enumerate_count c.loop-i.i-iterator in
    let steps = c.in-Some.ensures.steps in
    let pair = next (goal.at.loop-i-preserved c).In-Some in (
      rw (steps.1, steps.2, c.loop-i.invariant.0, c.hex_byte.ensures, pair.1) (front-more n (pairs s) old pair.0 c.requires.1),
      rw steps.2 pair.2,
      steps.0.0 ∙ c.loop-i.invariant.2,
    )

pub returns : goal.returns
returns c =
    let s = c.args.text.now in
    let n = enumerate_count c.loop-i.i-iterator in
    let l = c.loop-i.invariant in
    let steps = c.in-None.ensures.steps in
    let few : length (drop (2 * n) s) < 2 = rw (l.1, l.2) at steps.0.1.0 in
    l.0 ∙ ap (λ (x : List ℕ). front x c.args.out.now) (take_all n (pairs s) (omega (arith, length_pairs s, few, length-drop (2 * n) s)))
