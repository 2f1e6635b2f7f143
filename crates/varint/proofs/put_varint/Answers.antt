-- A number below 2^62 has a class, and its form is what is written. Assumes nothing.
use Prim.Native.Nat.{ℕ, ◌^◌, ◌<◌}
use mathlib.Core.Path.{◌≡◌, refl, sym, ◌∙◌}
use native.Mathlib.Omega.{arith}
use Rattle.std.specs.Prelude.{Option, Some, None}
use Rattle.std.specs.Option.{IsSome}
use Rattle.varint.specs.declared.Class.{Class}
use Rattle.varint.specs.Code.{place, place_of}
use Rattle.varint.specs.Varint.{class, shortest}
use Rattle.varint.proofs.TableLaws.{class-small, class-holds}
use Rattle.varint.proofs.RoundTrip.{length-shortest}
use Rattle.varint.proofs.put_varint.Goals as goal
use Rattle.varint.proofs.put_varint.Goals.{After-unwrap-class}

has_class : (o : Option Class) (v : ℕ) → place_of o ≡ class v → v < 2 ^ 62 → IsSome o
has_class (Some c) v e h = refl
has_class None v e h = absurd (omega (arith, e, class-small v h))

is : (c : After-unwrap-class) → place c.unwrap-class.result ≡ class c.args.value
is c = rw c.unwrap-class.ensures at c.of.ensures

pub unwrap-class-requires : goal.unwrap-class-requires
unwrap-class-requires c = has_class c.of.result c.args.value c.of.ensures c.requires.0

pub put-requires : goal.put-requires
put-requires c = rw (is (goal.at.put-requires c).After-unwrap-class) (c.requires.1, class-holds c.args.value (class-small c.args.value c.requires.0))

pub returns : goal.returns
unfolding shortest
returns c =
    let e = is (goal.at.returns c).After-unwrap-class in
    record { count = c.width.ensures ∙ rw e (sym (length-shortest c.args.value)); output = rw e at c.put.ensures }
