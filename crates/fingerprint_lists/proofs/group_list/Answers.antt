use Rattle.fingerprint_bodies.specs.Entries.{or_empty}
use Rattle.fingerprint_bodies.specs.Forms.{word_list}
use Rattle.fingerprint_lists.proofs.ReadLaws.{groups-from}
use Rattle.fingerprint_lists.proofs.group_list.Goals as goal

pub returns : goal.returns
returns c =
    let named = c.from in
    groups-from c.word_list.result named.result (or_empty (word_list 2 c.args.body.now)) c.word_list.ensures named.ensures.0 named.ensures.1
