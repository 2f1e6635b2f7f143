-- The loop keeps `Drawing`: the extensions before the next one stand, and it draws where the last stopped. Assumes nothing.
use Prim.Native.Nat.{◌+◌}
use mathlib.Core.Path.{◌≡◌, refl}
use mathlib.Core.List.{map}
use native.Mathlib.Omega.{arith}
use lib.ListN.{length, drop, get_or, length-map, get_or-map}
use lib.Seq.{drop-length}
use Rattle.profiles.specs.Code.{type_number, profile_of}
use Rattle.tape.specs.Part.{followed}
use Rattle.tape.proofs.PartLaws.{Drawing, starts, same-part, part_room, part-next, part-finished}
use Rattle.tls.specs.Hello.{build_extension, build_extensions}
use Rattle.tls.proofs.Extents.{extensions-rise}
use Rattle.tls.proofs.BuildLaws.{extensions-from}
use Rattle.tls.proofs.building.build_extensions.Goals as goal
use Rattle.tls.proofs.building.build_extensions.Goals.{In-loop-t}

-- the next extension
here :
    (c : In-loop-t) →
    let args = c.args in
    let types = map type_number args.types.now in
    let name = args.name.now in
    let scid = args.scid.now in
    let tape = args.tape.now in
    let loop = c.loop-t in
    let p = profile_of args.profile.now in
    Drawing (build_extensions p name scid tape types args.at)
    (followed (build_extension p name scid tape (get_or types loop.t-index 0) loop.next) (build_extensions p name scid tape (drop (loop.t-index + 1) types)))
    args.out.now loop.out loop.n
here c =
    let args = c.args in
    let loop = c.loop-t in
    same-part
    (extensions-from (profile_of args.profile.now) args.name.now args.scid.now args.tape.now (map type_number args.types.now) loop.t-index loop.next
    (omega (arith, length-map args.types.now type_number, c.loop-t-test.true)))
    loop.invariant

-- its type is the slice's
type-is : (c : In-loop-t) → get_or (map type_number c.args.types.now) c.loop-t.t-index 0 ≡ (get_or c.args.types.now c.loop-t.t-index (record { 0 = 0 })).0
type-is c = get_or-map type_number c.args.types.now c.loop-t.t-index (record { 0 = 0 })

pub loop-t-init : goal.loop-t-init
loop-t-init c = starts _ c.args.out.now c.requires.has.fits

pub build_extension-w-requires : goal.build_extension-w-requires
build_extension-w-requires c =
    let in-loop = (goal.at.build_extension-w-requires c).In-loop-t in
    let args = in-loop.args in
    let pre = in-loop.requires in
    let p = profile_of args.profile.now in
    let types = map type_number args.types.now in
    let name = args.name.now in
    let scid = args.scid.now in
    let tape = args.tape.now in
    let loop = in-loop.loop-t in
    let later = drop (loop.t-index + 1) types in
    let next = build_extension p name scid tape (get_or types loop.t-index 0) loop.next in
    rw (← (type-is in-loop))
    record {
      sound = pre.sound;
      short_name = pre.short_name;
      short_id = pre.short_id;
      has = part_room next (build_extensions p name scid tape later) (here in-loop) pre.has (extensions-rise p name scid tape later next.next);
    }

pub overflow_add-n : goal.overflow_add-n
overflow_add-n c =
    let in-loop = (goal.at.overflow_add-n c).In-loop-t in
    let args = c.args in
    let p = profile_of args.profile.now in
    let types = map type_number args.types.now in
    let loop = c.loop-t in
    let next = build_extension p args.name.now args.scid.now args.tape.now (get_or types loop.t-index 0) loop.next in
    let later = build_extensions p args.name.now args.scid.now args.tape.now (drop (loop.t-index + 1) types) in
    let drawn = part-next next later (here in-loop) (rw (← (type-is in-loop)) at c.build_extension-w.ensures) in
    omega (arith, drawn.writing.within, c.requires.has.small)

pub loop-t-preserved : goal.loop-t-preserved
loop-t-preserved c =
    let in-loop = (goal.at.loop-t-preserved c).In-loop-t in
    let args = c.args in
    let p = profile_of args.profile.now in
    let types = map type_number args.types.now in
    let loop = c.loop-t in
    let next = build_extension p args.name.now args.scid.now args.tape.now (get_or types loop.t-index 0) loop.next in
    let later = build_extensions p args.name.now args.scid.now args.tape.now (drop (loop.t-index + 1) types) in
    part-next next later (here in-loop) (rw (← (type-is in-loop)) at c.build_extension-w.ensures)

pub returns : goal.returns
unfolding build_extensions
returns c =
    let types = map type_number c.args.types.now in
    let loop = c.loop-t in
    let all : loop.t-index ≡ length types = omega (arith, length-map c.args.types.now type_number) in
    part-finished (same-part (rw (all, drop-length types) refl) loop.invariant)
