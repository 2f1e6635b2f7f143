-- The loop keeps: the swaps for the places below i, on what stands, are the whole shuffle. Assumes nothing.
use Prim.Native.Nat.{◌-◌}
use mathlib.Core.Path.{refl, sym, ◌∙◌}
use native.Mathlib.Omega.{arith}
use Rattle.tape.specs.Tape.{shuffle}
use Rattle.tape.proofs.ShuffleLaws.{swap-is, shuffle-turn, shuffle-ends}
use Rattle.tape.proofs.shuffle.Goals as goal

pub loop-i-init : goal.loop-i-init
unfolding shuffle
loop-i-init g c = (refl, λ d. refl)

pub loop-i-preserved : goal.loop-i-preserved
loop-i-preserved g c =
    let l = c.loop-i in
    let j = c.place_up_to.ensures in (
      omega arith,
      λ d.
          rw (c.swap.ensures.after, swap-is d l.v (l.i - 1) c.place_up_to.result (omega arith) (omega (arith, j.1)), j.0)
          (sym (shuffle-turn d l.v c.args.tape.now l.next l.i c.loop-i-test.true) ∙ l.invariant.1 d),
    )

pub returns : goal.returns
returns g c =
    let l = c.loop-i in
    (omega arith, λ d. sym (shuffle-ends d l.v c.args.tape.now l.next l.i (omega arith)) ∙ l.invariant.1 d)
