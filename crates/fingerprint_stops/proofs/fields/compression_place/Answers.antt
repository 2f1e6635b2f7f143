-- `compression_place` asks what the definition asks of the compression. Assumes nothing.
use Rattle.fingerprint_stops.proofs.FieldLaws.{compression-short, compression-empty, compression-cut, compression-there}
use borrow.Author.Rules.{rules}
use Rattle.fingerprint_stops.proofs.fields.compression_place.Goals as goal

pub returns-then-n-at-lt1 : goal.returns-then-n-at-lt1
returns-then-n-at-lt1 c = compression-short c.args.hello.now c.args.at c.if-n-at-lt1.true

pub returns-then-length-eq0 : goal.returns-then-length-eq0
returns-then-length-eq0 c =
    let args = c.args in
    compression-empty args.hello.now args.at (search rules) c.from-length.result c.from-length.ensures c.if-length-eq0.true

pub returns-then-n-at : goal.returns-then-n-at
returns-then-n-at c =
    let args = c.args in
    compression-cut args.hello.now args.at (search rules) c.from-length.result c.from-length.ensures c.if-n-at.true

pub returns : goal.returns
returns c =
    let args = c.args in
    compression-there args.hello.now args.at (search rules) c.from-length.result c.from-length.ensures c.if-length-eq0.false c.if-n-at.false
