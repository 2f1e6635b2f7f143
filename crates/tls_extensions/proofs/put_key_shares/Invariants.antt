-- The loop keeps `Drawing`: the shares before the next one stand, and it draws where the last stopped. Assumes nothing.
use mathlib.Core.List.{map}
use Rattle.profiles.specs.Code.{group_number}
use lib.ListN.{drop}
use Rattle.tape.proofs.PartLaws.{Drawing}
use Rattle.tls_extensions.specs.Extensions.{key_shares}
use Rattle.tls_extensions.proofs.put_key_shares.Given as goal

abbrev pub invariant-loop-group : goal.invariant-loop-group
invariant-loop-group l =
    Drawing (key_shares (map group_number l.groups) l.tape l.at) (key_shares (drop l.group-index (map group_number l.groups)) l.tape l.next)
    l.initial.out l.out l.n
