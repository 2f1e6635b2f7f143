-- `third_demand::two_greetings` meets its contract: what its calls promise, and the third demand of it. Assumes nothing.
use Prim.Native.Nat.{ℕ, ◌≤◌}
use mathlib.Core.Path.{◌≡◌, sym, ap₂, ◌∙◌}
use mathlib.Core.List.{List}
use lib.ListN.{length}
use lib.Seq.{length-take-le}
use native.Mathlib.Omega.{arith}
use Rattle.fingerprint.specs.Reader.{read}
use Rattle.alike.specs.Alike.{alike}
use Rattle.third_demand.specs.Run.{left_in}
use Rattle.third_demand.proofs.RunLaws.{end-inside, front-part, ran}
use Rattle.third_demand.proofs.two_greetings.Goals as goal
use Rattle.third_demand.proofs.two_greetings.Goals.{After-unwrap_or-end2}

inside : (c : After-unwrap_or-end2) → c.unwrap_or-end.result ≤ length c.greet-first.new.out
inside c = omega (arith, end-inside c.greet-first.ensures.went.joined, c.greet-first.auto, c.unwrap_or-end.ensures)

inside2 : (c : After-unwrap_or-end2) → c.unwrap_or-end2.result ≤ length c.greet-second.new.out
inside2 c = omega (arith, end-inside c.greet-second.ensures.went.joined, c.greet-second.auto, c.unwrap_or-end2.ensures)

pub slice_bounds-alike-end : goal.slice_bounds-alike-end
slice_bounds-alike-end c = inside c

pub slice_bounds-alike-end-2 : goal.slice_bounds-alike-end-2
slice_bounds-alike-end-2 c = sym (length-take-le c.unwrap_or-end.result c.greet-first.new.out (inside c))

pub slice_bounds-alike-end-3 : goal.slice_bounds-alike-end-3
slice_bounds-alike-end-3 c = inside2 c

pub slice_bounds-alike-end-4 : goal.slice_bounds-alike-end-4
slice_bounds-alike-end-4 c = sym (length-take-le c.unwrap_or-end2.result c.greet-second.new.out (inside2 c))

pub returns : goal.returns
returns c =
    let first = c.greet-first in
    let second = c.greet-second in
    let out : List ℕ = first.new.out in
    let out2 : List ℕ = second.new.out in
    let front = rw (← c.unwrap_or-end.ensures) at (front-part first.result.joined out) in
    let front2 = rw (← c.unwrap_or-end2.ensures) at (front-part second.result.joined out2) in
    let verdict : c.alike.result ≡ alike (read (left_in first.result out)) (read (left_in second.result out2)) =
    c.alike.ensures ∙ ap₂ (λ (a b : List ℕ). alike (read a) (read b)) front front2 in
    ran first.ensures.went second.ensures.went first.ensures.bytes.0 first.ensures.bytes.1 second.ensures.bytes.0 second.ensures.bytes.1 verdict
