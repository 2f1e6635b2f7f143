-- `ask_shares` counts key shares by their groups. Assumes nothing.
use mathlib.Core.Path.{◌∙◌}
use Rattle.fingerprint_bodies.specs.Entries.{whole, all_entries}
use Rattle.fingerprint_bodies.specs.Forms.{one_share, group_of, key_shares}
use Rattle.fingerprint_bodies.proofs.FormLaws.{list-shown, any-many}
use Rattle.fingerprint_bodies.proofs.ask_shares.Goals as goal

pub returns : goal.returns
unfolding key_shares
returns c =
    let list = whole 2 c.args.body.now in
    c.ask_entries.ensures ∙ list-shown group_of 0 64 one_share list ∙ any-many 64 list (λ l. all_entries one_share l)
