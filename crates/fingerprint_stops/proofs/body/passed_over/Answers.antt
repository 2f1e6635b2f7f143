-- The loop keeps: what the definition passes over from the start is the place and what it passes over from there. Assumes nothing.
use mathlib.Core.Path.{◌≡◌, ap, ◌∙◌}
use Prim.Native.Nat.{ℕ, ◌+◌, ◌≤◌, zero-le}
use mathlib.Core.List.{List}
use lib.ListN.{length, drop, length-drop}
use native.Mathlib.Omega.{arith}
use Rattle.wire.proofs.ListLaws.{part_to_end}
use Rattle.fingerprint.specs.Code.{meant}
use Rattle.fingerprint_stops.specs.Stops.{entry_size}
use Rattle.fingerprint_stops.proofs.PlaceLaws.{entry-within}
use Rattle.fingerprint_stops.proofs.EntryLaws.{passed_start, passed-end, passed_none, passed-next}
use Rattle.fingerprint_stops.proofs.body.passed_over.Goals as goal
use Rattle.fingerprint_stops.proofs.body.passed_over.Goals.{In-Some}

module _ (c : In-Some) where
  whole : (c.in-Some.size ≡ entry_size (meant c.args.kind) (drop c.loop-k.at c.args.list.now)) × (1 ≤ c.in-Some.size)
  whole =
      let s = rw c.in-Some.is at c.entry_size.ensures in
      (s.0 ∙ ap (λ (l : List ℕ). entry_size (meant c.args.kind) l) (part_to_end c.args.list.now c.loop-k.at), s.1)

  fits : c.loop-k.at + c.in-Some.size ≤ length c.args.list.now
  fits =
      let rest : List ℕ = drop c.loop-k.at c.args.list.now in
      omega (arith, whole.0, entry-within (meant c.args.kind) rest, length-drop c.loop-k.at c.args.list.now, c.loop-k.invariant.0)

pub loop-k-init : goal.loop-k-init
loop-k-init c = (zero-le, passed_start (meant c.args.kind) c.args.list.now c.args.n)

pub returns-in_default : goal.returns-in_default
returns-in_default c =
    let args = c.args in
    let loop = c.loop-k in
    let none = (rw c.in_default.is at c.entry_size.ensures) ∙ ap (λ (l : List ℕ). entry_size (meant args.kind) l) (part_to_end args.list.now loop.at) in
    (omega (arith, loop.invariant.1, passed_none (meant args.kind) args.list.now args.n loop._k loop.at c.loop-k-test.true none), loop.invariant.0)

pub overflow_add-at : goal.overflow_add-at
overflow_add-at c = omega (arith, fits (goal.at.overflow_add-at c).In-Some)

pub loop-k-preserved : goal.loop-k-preserved
loop-k-preserved c =
    let args = c.args in
    let loop = c.loop-k in
    let here = (goal.at.loop-k-preserved c).In-Some in
    let next = passed-next (meant args.kind) args.list.now args.n loop._k loop.at c.loop-k-test.true c.in-Some.size (λ e. omega (arith, (whole here).1, e)) (whole here).0 in
    (fits here, omega (arith, loop.invariant.1, next))

pub returns : goal.returns
returns c =
    let args = c.args in
    let loop = c.loop-k in
    let end = passed-end (meant args.kind) args.list.now args.n loop._k loop.at c.loop-k-test.false in
    (omega (arith, loop.invariant.1, end), loop.invariant.0)
