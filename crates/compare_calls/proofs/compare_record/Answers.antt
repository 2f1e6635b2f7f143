-- `compare_record` copies the splitter's part. Assumes nothing.
use Rattle.compare_calls.proofs.PartLaws.{no_room, copied}
use Rattle.compare_calls.proofs.compare_record.Goals as goal

pub returns-then-out-part : goal.returns-then-out-part
returns-then-out-part c =
    let args = c.args in
    no_room args.blob.now args.place _ args.out.now c.split_records-part.ensures c.if-out-part.true

pub returns : goal.returns
returns c =
    let args = c.args in
    let split-records = c.split_records-part in
    let put-bytes = c.put_bytes in
    let if1 = c.if-out-part in
    copied args.blob.now args.place _ args.out.now split-records.ensures put-bytes.result _ if1.false put-bytes.ensures
