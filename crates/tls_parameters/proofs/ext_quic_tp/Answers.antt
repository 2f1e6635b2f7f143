-- The parameters are written as the definition sends them; the head is written over their front. Assumes nothing.
use Prim.Native.Nat.{◌+◌, ◌≤◌}
use mathlib.Core.Path.{◌≡◌, ◌∙◌}
use mathlib.Core.List.{List}
use native.Mathlib.Omega.{arith}
use lib.ListN.{length, length-map}
use lib.Seq.{length-take-le}
use Rattle.wire.specs.Front.{Put}
use Rattle.wire.proofs.ListLaws.{length-part-to-end}
use Rattle.wire.proofs.Writing.{lent_from}
use Rattle.profiles.specs.Code.{parameter_of}
use Rattle.profiles.specs.Profile.{Parameter}
use Rattle.tape.specs.Tape.{shuffle}
use Rattle.tls_parameters.specs.Parameters.{after_parameters, sent_parameters, parameters, ext_quic_tp}
use Rattle.tls_parameters.specs.Writing.{placed_at}
use Rattle.tls_parameters.specs.declared.Placed.{Placed}
use Rattle.tls_parameters.proofs.OrderLaws.{listed, length-placed, shuffled-sent, shuffled-room, draws-there, shuffle-there, body-fits, body-small, extension-written}
use Rattle.tls_parameters.proofs.ext_quic_tp.Goals as goal
use Rattle.tls_parameters.proofs.ext_quic_tp.Goals.{After-put_parameters-n, After-shuffle-next, Start}

abbrev params : Start → List Parameter
params c = listed c.args.entries.now

there : (c : Start) → after_parameters (params c) c.args.at ≤ length c.args.tape.now
there c = draws-there (params c) c.args.scid.now c.args.tape.now c.args.at c.requires.2

fits : (c : Start) → 4 + length (parameters (sent_parameters (params c) c.args.scid.now c.args.tape.now c.args.at)) ≤ length c.args.out.now
fits c = body-fits (params c) c.args.scid.now c.args.tape.now c.args.at c.requires.2

pub place_draws-drawn-requires : goal.place_draws-drawn-requires
place_draws-drawn-requires c = (length-take-le (length c.args.entries.now) _ c.requires.0, omega (arith, there (goal.at.place_draws-drawn-requires c).Start))

pub shuffle-next-requires : goal.shuffle-next-requires
shuffle-next-requires c =
    let args = c.args in
    let start = (goal.at.shuffle-next-requires c).Start in
    let draws = c.place_draws-drawn.ensures in
    rw (draws.1, length-placed args.entries.now args.at, draws.0)
    (omega (arith, c.requires.0), shuffle-there (params start) args.scid.now args.tape.now args.at c.requires.2 (length-map args.entries.now parameter_of))

order : (c : After-shuffle-next) (d : Placed)
    → let args = c.args in
    c.shuffle-next.new.v ≡ shuffle d (placed_at args.entries.now args.at) args.tape.now (after_parameters (listed args.entries.now) args.at)
order c d = rw (c.place_draws-drawn.ensures.1, c.place_draws-drawn.ensures.0) at (c.shuffle-next.ensures.1 d)

body : (c : After-put_parameters-n)
    → let args = c.args in
    Put (parameters (sent_parameters (listed args.entries.now) args.scid.now args.tape.now args.at)) c.put_parameters-n.result (lent_from 4 args.out.now) c.put_parameters-n.new.out
body c =
    let args = c.args in
    let draws = c.place_draws-drawn.ensures in
    let order : (d : Placed) → c.shuffle-next.new.v ≡ shuffle d (placed_at args.entries.now args.at) args.tape.now (after_parameters (listed args.entries.now) args.at) =
    λ d. rw (draws.1, draws.0) at (c.shuffle-next.ensures.1 d) in
    rw (shuffled-sent args.entries.now args.scid.now args.tape.now args.at order) at c.put_parameters-n.ensures

pub slice_bounds-put_parameters-count : goal.slice_bounds-put_parameters-count
slice_bounds-put_parameters-count c = omega (arith, fits (goal.at.slice_bounds-put_parameters-count c).Start)

pub slice_bounds-put_parameters-start : goal.slice_bounds-put_parameters-start
slice_bounds-put_parameters-start c = omega (arith, fits (goal.at.slice_bounds-put_parameters-start c).Start)

pub put_parameters-n-requires : goal.put_parameters-n-requires
put_parameters-n-requires c =
    let args = c.args in
    let pre = c.requires in
    let start = (goal.at.put_parameters-n-requires c).Start in
    let shuffled = (goal.at.put_parameters-n-requires c).After-shuffle-next in
    rw (length-part-to-end args.out.now 4)
    (shuffled-room args.entries.now args.scid.now args.tape.now args.at (order shuffled) pre.1 (there start) (omega (arith, fits start))
    (omega (arith, body-small (params start) args.scid.now args.tape.now args.at pre.2)))

pub put_head-requires : goal.put_head-requires
put_head-requires c =
    let args = c.args in
    let start = (goal.at.put_head-requires c).Start in
    let written = body (goal.at.put_head-requires c).After-put_parameters-n in
    let small = body-small (params start) args.scid.now args.tape.now args.at c.requires.2 in
    (omega (arith, fits start), omega (arith, small, written.count))

pub overflow_add-result : goal.overflow_add-result
overflow_add-result c = omega (arith, fits (goal.at.overflow_add-result c).Start, (body (goal.at.overflow_add-result c).After-put_parameters-n).count)

pub returns : goal.returns
unfolding ext_quic_tp
returns c =
    let args = c.args in
    let start = (goal.at.returns c).Start in
    let draws = c.place_draws-drawn.ensures in
    let count = rw (draws.1, length-placed args.entries.now args.at, draws.0) at c.shuffle-next.ensures.0 in
    record {
      put = extension-written 0x0039 _ args.out.now c.put_parameters-n.new.out (fits start) (body (goal.at.returns c).After-put_parameters-n) c.put_head.ensures;
      next = count ∙ rw (length-map args.entries.now parameter_of);
    }
