-- The types are in the order of the profile; the extensions stand after the place of their length, and then the length is written. Assumes
-- nothing.
use Prim.Native.Nat.{ℕ, ◌+◌, ◌≤◌}
use native.Mathlib.Nat.{le_trans}
use mathlib.Core.Path.{◌≡◌, sym, ap}
use mathlib.Core.List.{List}
use lib.ListN.{length, take}
use lib.Seq.{length-take-le}
use Rattle.std.proofs.lemmas.List.{length-take, take_min}
use Rattle.profiles.specs.Sizes.{session_length}
use Rattle.profiles.specs.Code.{profile_of}
use Rattle.tls.proofs.OrderLaws.{Ordered, order-room, ordered}
use Rattle.tls.proofs.Extents.{extensions-rise}
use Rattle.tls.proofs.HelloLaws.{block-rises, block-long, extensions-room, block-small, block_back, block-put}
use native.Mathlib.Omega.{arith}
use Rattle.tls.proofs.making.put_block.Goals as goal
use Rattle.tls.proofs.making.put_block.Goals.{After-put_in_order-at, After-session_length-drawn, Start}

-- a list is the first of an array, so the array cut to its length is the list
module _ {A : Type 0} (k : ℕ) (array : List A) {listed : List A} (e : listed ≡ take k array) where
  within : length listed ≤ length array
  within = omega (arith, ap length e, length-take k array)

  cut : take (length listed) array ≡ take k array
  cut = rw (e, length-take k array) (take_min k array)

drawn : (c : After-session_length-drawn) → 32 + c.session_length-drawn.result ≡ 32 + session_length (profile_of (c.args.profile.now))
drawn c = ap (λ n. 32 + n) c.session_length-drawn.ensures.0

chosen : (c : After-put_in_order-at) → Ordered c.args.profile.now c.args.tape.now c.put_in_order-at.new.types c.put_in_order-at.result
chosen c =
    let args = c.args in
    let put = rw (cut _ _ c.extensions.ensures) at c.put_in_order-at.ensures in
    let drawn = ap (λ n. 32 + n) c.session_length-drawn.ensures.0 in
    ordered args.profile.now c.requires.sound drawn args.tape.now put.is put.order

pub slice_bounds-order-end : goal.slice_bounds-order-end
slice_bounds-order-end c = within _ _ c.extensions.ensures

pub slice_bounds-types-end : goal.slice_bounds-types-end
slice_bounds-types-end c = sym (length-take-le _ _ (within _ _ c.extensions.ensures))

pub put_in_order-at-requires : goal.put_in_order-at-requires
put_in_order-at-requires c =
    let start = (goal.at.put_in_order-at-requires c).Start in
    let args = start.args in
    let rises = block-rises args.profile.now args.name.now args.scid.now args.tape.now (extensions-rise (profile_of args.profile.now) args.name.now args.scid.now args.tape.now) in
    rw (cut _ _ c.extensions.ensures)
    (order-room args.profile.now start.requires.sound (drawn (goal.at.put_in_order-at-requires c).After-session_length-drawn) (le_trans rises start.requires.has.there))

pub slice_bounds-build_extensions-count : goal.slice_bounds-build_extensions-count
slice_bounds-build_extensions-count c = block-long c.args.profile.now c.args.name.now c.args.scid.now c.args.tape.now c.requires

pub slice_bounds-build_extensions-start : goal.slice_bounds-build_extensions-start
slice_bounds-build_extensions-start c = block-long c.args.profile.now c.args.name.now c.args.scid.now c.args.tape.now c.requires

pub build_extensions-w-requires : goal.build_extensions-w-requires
build_extensions-w-requires c =
    let args = c.args in
    extensions-room args.profile.now args.name.now args.scid.now args.tape.now (chosen (goal.at.build_extensions-w-requires c).After-put_in_order-at) args.out.now c.requires

pub overflow_cast-w : goal.overflow_cast-w
overflow_cast-w c =
    let args = c.args in
    omega (arith, block-small args.profile.now args.name.now args.scid.now args.tape.now (chosen (goal.at.overflow_cast-w c).After-put_in_order-at) args.out.now c.requires c.build_extensions-w.ensures)

pub w16-requires : goal.w16-requires
w16-requires c =
    let args = c.args in
    block_back args.profile.now args.name.now args.scid.now args.tape.now (chosen (goal.at.w16-requires c).After-put_in_order-at) args.out.now c.requires c.build_extensions-w.ensures

pub overflow_add-result : goal.overflow_add-result
overflow_add-result c =
    let args = c.args in
    omega (arith, block-small args.profile.now args.name.now args.scid.now args.tape.now (chosen (goal.at.overflow_add-result c).After-put_in_order-at) args.out.now c.requires c.build_extensions-w.ensures)

pub returns : goal.returns
returns c =
    let args = c.args in
    block-put args.profile.now args.name.now args.scid.now args.tape.now (chosen (goal.at.returns c).After-put_in_order-at) args.out.now c.requires c.build_extensions-w.ensures c.w16.ensures
