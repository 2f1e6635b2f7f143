-- The loop keeps `Drawing`: the extensions before the next one stand, and it draws where the last stopped. Assumes nothing.
use mathlib.Core.List.{map}
use lib.ListN.{drop}
use Rattle.profiles.specs.Code.{type_number, profile_of}
use Rattle.tape.proofs.PartLaws.{Drawing}
use Rattle.tls.specs.Hello.{build_extensions}
use Rattle.tls.proofs.building.build_extensions.Given as goal

abbrev pub invariant-loop-t : goal.invariant-loop-t
invariant-loop-t l =
    let types = map type_number l.types in
    let p = profile_of l.profile in
    Drawing (build_extensions p l.name l.scid l.tape types l.at) (build_extensions p l.name l.scid l.tape (drop l.t-index types) l.next) l.initial.out l.out l.n
