-- `split_records` hands back the part between the length and the place after the record, or an empty one. Assumes nothing.
use Rattle.records.specs.Records.{Finds}
use Rattle.std.specs.Prelude.{Ok, Some}
use Rattle.records.proofs.Promises.{part_of}
use Rattle.records.proofs.split_records.Goals as goal
use Rattle.records.proofs.split_records.Goals.{In-Ok-Some}

-- in the arm of a record
found :
    (c : In-Ok-Some)
    → let args = c.args in Finds args.blob.now args.place (Ok (Some c.in-Ok-Some.after))
found c = rw (c.in-Ok-Some.is, c.in-Ok-Some.field-0-is) at c.next_record.ensures

pub returns-in-Ok-Some : goal.returns-in-Ok-Some
returns-in-Ok-Some c = part_of _ _ _ (found (goal.at.returns-in-Ok-Some c).In-Ok-Some)

pub returns-in-Ok-None : goal.returns-in-Ok-None
returns-in-Ok-None c = part_of _ _ _ (rw (c.in-Ok-None.is, c.in-Ok-None.field-0-is) at c.next_record.ensures)

pub returns-in-Err : goal.returns-in-Err
returns-in-Err c = part_of _ _ _ (rw c.in-Err.is at c.next_record.ensures)
