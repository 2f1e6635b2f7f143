-- `ask_body_at` asks what the kind of the place asks. Assumes nothing.
use Rattle.fingerprint.proofs.walk.ask_body_at.Goals as goal

pub returns : goal.returns
returns c = rw c.at.ensures at c.ask_body.ensures
