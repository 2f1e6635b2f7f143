-- What `compare_record` promises, by whether the part fits the output. Assumes nothing.
use Rattle.std.proofs.Common.{◌≡◌, ℕ, ◌<◌, ◌≤◌, List, length, le-leb}
use borrow.Author.Tests.{lt-leb}
use Rattle.wire.specs.Front.{Put}
use Rattle.records.specs.Records.{record_of}
use Rattle.compare_calls.specs.Calls.{part_of, PartCoded}

module _ (blob : List ℕ) (at : ℕ) (part out : List ℕ) (e : part ≡ record_of blob at) where
  pub no_room : length out < length part → PartCoded blob at out 4294967296 out
  unfolding part_of
  no_room h = let l = lt-leb (length (record_of blob at)) (length out) (rw e at h) in record { is = rw l; output = rw l }

  pub copied : (n : ℕ) (out' : List ℕ) → length part ≤ length out → Put part n out out' → PartCoded blob at out n out'
  unfolding part_of
  copied n out' h p =
      let l = le-leb (length (record_of blob at)) (length out) (rw e at h) in
      record { is = rw (l, ← e) p.count; output = rw (l, ← e) p.output }
