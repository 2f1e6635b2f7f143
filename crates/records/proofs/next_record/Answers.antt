-- `next_record` says what stands at a place, by its three tests and the length that it read. Assumes nothing.
use mathlib.Core.Path.{◌≡◌}
use Rattle.wire.proofs.ListLaws.{part_to_end}
use Rattle.records.specs.Records.{length_at}
use Rattle.records.proofs.Promises.{finds-outside, finds-end, finds-cut, finds-record}
use Rattle.records.proofs.next_record.Goals as goal
use Rattle.records.proofs.next_record.Goals.{After-be16-length}

pub returns-then-blob-place : goal.returns-then-blob-place
returns-then-blob-place c = finds-outside _ _ c.if-blob-place.true

pub returns-then-blob-place-lt2 : goal.returns-then-blob-place-lt2
returns-then-blob-place-lt2 c = finds-end _ _ c.if-blob-place.false c.if-blob-place-lt2.true

-- the two bytes at the place are the record's length
length-read :
    (c : After-be16-length) → let args = c.args in c.be16-length.result ≡ length_at args.blob.now args.place
unfolding length_at
length-read c = rw part_to_end at c.be16-length.ensures

pub returns-then-blob-start : goal.returns-then-blob-start
returns-then-blob-start c = finds-cut _ _ c.if-blob-place.false c.if-blob-place-lt2.false _ (length-read (goal.at.returns-then-blob-start c).After-be16-length) c.if-blob-start.true

pub returns : goal.returns
returns c = finds-record _ _ c.if-blob-place.false c.if-blob-place-lt2.false _ (length-read (goal.at.returns c).After-be16-length) c.if-blob-start.false
