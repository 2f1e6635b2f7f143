-- `ask_protocols` counts names by their lengths. Assumes nothing.
use mathlib.Core.Path.{◌∙◌}
use lib.ListN.{length}
use Rattle.fingerprint_bodies.specs.Entries.{whole}
use Rattle.fingerprint_bodies.specs.Forms.{one_name, some_names, protocol_names}
use Rattle.fingerprint_bodies.proofs.FormLaws.{list-shown}
use Rattle.fingerprint_bodies.proofs.ask_protocols.Goals as goal

pub returns : goal.returns
unfolding protocol_names some_names
returns c = c.ask_entries.ensures ∙ list-shown length 1 16 one_name (whole 2 c.args.body.now)
