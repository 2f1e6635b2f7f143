-- The loop keeps `Summing`: what is still to be read gives the rest of the sum. Assumes nothing.
use Prim.Native.Nat.{ℕ}
use Rattle.compare_calls.proofs.SumLaws.{Summing, starts, goes_on, stops}
use Rattle.compare_calls.proofs.compare_varint_sum.Goals as goal

pub loop-value-init : goal.loop-value-init
loop-value-init c = rw c.into_iter-value-iterator.ensures.into_iter_gives (starts c.args.input.now)

pub loop-value-preserved : goal.loop-value-preserved
loop-value-preserved c =
    let l = c.loop-value in
    let s = c.in-Some.ensures.steps in
    rw (s.5, s.4) (goes_on c.args.input.now l.value-iterator.0.now l.sum l.invariant s.0 s.1 s.2 s.3)

pub returns : goal.returns
returns c =
    let l = c.loop-value in
    let s = c.in-None.ensures.steps in
    stops c.args.input.now l.value-iterator.0.now l.sum l.invariant s.0 s.1
