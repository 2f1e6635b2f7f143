use mathlib.Core.Path.{ap, ◌∙◌}
use mathlib.Core.List.{List, map}
use Prim.Native.Nat.{ℕ}
use Rattle.fingerprint_bodies.specs.Entries.{or_empty, front_entries}
use Rattle.fingerprint_bodies.specs.Body.{Share}
use Rattle.fingerprint_bodies.specs.Forms.{key_shares, group_of}
use Rattle.fingerprint_lists.specs.Arrays.{words_of}
use Rattle.fingerprint_lists.proofs.GoodLaws.{shares-after}
use Rattle.fingerprint_lists.proofs.WalkLaws.{share_form, front-groups, groups-few}
use Rattle.fingerprint_lists.proofs.ReadLaws.{groups-from}
use Rattle.fingerprint_lists.proofs.key_share_groups.Goals as goal

pub numbers-requires : goal.numbers-requires
numbers-requires c =
    let found = (shares-after c.args.body.now c.requires).found in
    rw (c.after.ensures, front-groups _ found) (groups-few _ found)

pub returns : goal.returns
returns c =
    let named = c.from in
    let read =
    c.numbers.ensures
    ∙ ap (λ (l : List ℕ). words_of (front_entries share_form l)) c.after.ensures
    ∙ ap words_of (front-groups _ (shares-after c.args.body.now c.requires).found)
    ∙ ap (λ (l : List Share). words_of (map group_of l)) (shares-after c.args.body.now c.requires).is in
    groups-from c.numbers.result named.result (map group_of (or_empty (key_shares c.args.body.now))) read named.ensures.0 named.ensures.1
