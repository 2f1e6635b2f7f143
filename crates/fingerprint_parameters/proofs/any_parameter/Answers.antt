-- Two numbers are read and the value is asked for, as in `one_parameter`. Assumes nothing.
use Prim.Native.Nat.{ℕ}
use mathlib.Core.Path.{◌≡◌}
use mathlib.Core.List.{List}
use lib.ListN.{drop}
use Rattle.std.specs.Prelude as std
use Rattle.std.specs.Prelude.{Some, None, Result, Ok, Err}
use Rattle.std.specs.Result.{result_ok}
use Rattle.wire.proofs.ListLaws.{part_to_end}
use Rattle.wire.specs.declared.refusals.Refusal.{Refusal}
use Rattle.varint.specs.Varint.{Found}
use Rattle.varint.specs.declared.Varint.{Varint}
use Rattle.fingerprint_parameters.proofs.OneParameter.{no-id, no_length, no_value, whole-parameter}
use native.Mathlib.Omega.{arith}
use Rattle.fingerprint_parameters.proofs.any_parameter.Goals as goal
use Rattle.fingerprint_parameters.proofs.any_parameter.Goals.{In_ok-id, In_ok-length}

-- where the code goes on with a varint it was found, and where it does not there is none
found : (s : List ℕ) (r : Result Varint Refusal) (o : std.Option Varint) (x : Varint) → Found s r → o ≡ result_ok r → o ≡ Some x → Found s (Ok x)
found s (Ok y) o x f e h = let same : y ≡ x = grind (arith, e, h) in rw same at f
found s (Err k) o x f e h = absurd (grind (arith, e, h))

missed : (s : List ℕ) (r : Result Varint Refusal) (o : std.Option Varint) → Found s r → o ≡ result_ok r → o ≡ None → (k : Refusal) × Found s (Err k)
missed s (Ok y) o f e h = absurd (grind (arith, e, h))
missed s (Err k) o f e h = (k, f)

id-found : (c : In_ok-id) → Found c.args.rest.now (Ok c.in_ok-id.id)
id-found c = found c.args.rest.now c.read.result c.ok.result c.in_ok-id.id c.read.ensures c.ok.ensures.value c.in_ok-id.was

length_found : (c : In_ok-length) → Found (drop c.in_ok-id.id.width c.args.rest.now) (Ok c.in_ok-length.length)
length_found c =
    found (drop c.in_ok-id.id.width c.args.rest.now) c.read-2.result c.ok-2.result c.in_ok-length.length
    (rw (part_to_end c.args.rest.now c.in_ok-id.id.width) at c.read-2.ensures) c.ok-2.ensures.value c.in_ok-length.was

pub returns-in_err-id : goal.returns-in_err-id
returns-in_err-id c =
    let m = missed c.args.rest.now c.read.result c.ok.result c.read.ensures c.ok.ensures.value c.in_err-id.was in
    rw c.from_residual.ensures (no-id c.args.rest.now m.0 m.1)

pub returns-in_err-length : goal.returns-in_err-length
returns-in_err-length c =
    let s = drop c.in_ok-id.id.width c.args.rest.now in
    let f = rw (part_to_end c.args.rest.now c.in_ok-id.id.width) at c.read-2.ensures in
    let m = missed s c.read-2.result c.ok-2.result f c.ok-2.ensures.value c.in_err-length.was in
    rw c.from_residual-in_err-length.ensures (no_length c.args.rest.now _ (id-found (goal.at.returns-in_err-length c).In_ok-id) m.0 m.1)

pub returns-then-rest-head : goal.returns-then-rest-head
returns-then-rest-head c =
    no_value c.args.rest.now _ (id-found (goal.at.returns-then-rest-head c).In_ok-id) _ (length_found (goal.at.returns-then-rest-head c).In_ok-length)
    c.if-rest-head.true

pub returns : goal.returns
returns c =
    whole-parameter c.args.rest.now _ (id-found (goal.at.returns c).In_ok-id) _ (length_found (goal.at.returns c).In_ok-length) c.if-rest-head.false
