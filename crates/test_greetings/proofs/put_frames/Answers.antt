-- `put_frames` lends the hello that was made, and the frames fit into the output. Assumes nothing.
use Prim.Native.Nat.{ℕ, ◌≤◌, zero-le}
use mathlib.Core.Path.{sym}
use lib.Seq.{length-take-le}
use native.Mathlib.Omega.{arith}
use Rattle.std.specs.Prelude.{Result, Ok, Err, IfOk}
use Rattle.std.specs.Result.{result_unwrap_or}
use Rattle.wire.specs.declared.refusals.Refusal.{Refusal}
use Rattle.test_greetings.proofs.put_frames.Goals as goal

bounded : {m : ℕ} (r : Result ℕ Refusal) → IfOk r (λ n. n ≤ m) → result_unwrap_or r 0 ≤ m
bounded (Ok n) h = h
bounded (Err e) h = zero-le

pub slice_bounds-write_frames-end : goal.slice_bounds-write_frames-end
slice_bounds-write_frames-end c =
    let made = c.generate_client_hello in
    sym (length-take-le c.in-Ok.made.length made.new.out (omega (arith, (rw c.in-Ok.is at made.ensures.bounds).0, made.auto)))

pub returns : goal.returns
returns c = rw c.unwrap_or.ensures (bounded c.write_frames.result c.write_frames.ensures.bounds)
