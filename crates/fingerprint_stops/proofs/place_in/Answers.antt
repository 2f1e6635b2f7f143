-- `place_in` asks whether the type is new before it goes into the body. Assumes nothing.
use Prim.Native.Nat.{ℕ, ◌-◌, ◌≤◌}
use mathlib.Core.Path.{◌≡◌, sym, ◌∙◌}
use mathlib.Core.List.{List}
use native.Mathlib.Omega.{arith}
use lib.ListN.{length, drop, length-drop}
use Rattle.wire.proofs.ListLaws.{length_part}
use Rattle.fingerprint.specs.Reader.{one_extension}
use Rattle.fingerprint_stops.specs.Stops.{extension_place}
use Rattle.fingerprint_stops.proofs.StopLaws.{extension-within}
use Rattle.fingerprint_stops.proofs.WalkLaws.{place-known, place_inside}
use Rattle.fingerprint_stops.proofs.place_in.Goals as goal

bounded : (known h : List ℕ) (at r : ℕ) → r ≡ extension_place known (one_extension (drop at h))
    → (r ≡ extension_place known (one_extension (drop at h))) × (r ≤ length h - at)
bounded known h at r e = (e, omega (arith, e, extension-within known (drop at h), length-drop at h))

pub returns-then-has : goal.returns-then-has
returns-then-has c =
    let args = c.args in
    let known : List ℕ = args.known.types.now in
    bounded known args.hello.now (args.header.start - 4) 0 (place-known known c.requires.0 (sym c.has.ensures ∙ c.if-has.true))

pub slice_bounds-in_body-count : goal.slice_bounds-in_body-count
slice_bounds-in_body-count c = c.requires.0.forward

pub slice_bounds-in_body-start : goal.slice_bounds-in_body-start
slice_bounds-in_body-start c = c.requires.0.forward

pub slice_bounds-in_body-end : goal.slice_bounds-in_body-end
slice_bounds-in_body-end c = c.requires.0.inside

pub in_body-requires : goal.in_body-requires
in_body-requires c =
    let f = c.requires.0 in
    omega (arith, length_part c.args.hello.now c.args.header.start c.args.header.end f.forward f.inside, f.inside, c.requires.1)

pub returns : goal.returns
returns c =
    let args = c.args in
    let known : List ℕ = args.known.types.now in
    let is = place_inside known c.requires.0 (sym c.has.ensures ∙ c.if-has.false) in
    bounded known args.hello.now (args.header.start - 4) c.in_body.result (c.in_body.ensures ∙ is)
