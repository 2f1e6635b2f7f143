-- `read_fields` asks the first questions in turn, and goes on to the fields where the three bytes are the length. Assumes nothing.
use mathlib.Core.Path.{◌≡◌}
use lib.ListN.{take, drop}
use Rattle.wire.specs.Numbers.{number}
use Rattle.fingerprint.proofs.HeadLaws.{number-three, read-long, read-empty, read-type, read-few, read-other, read-fields}
use borrow.Author.Rules.{rules}
use native.Mathlib.Omega.{arith}
use Rattle.fingerprint.proofs.head.read_fields.Goals as goal
use Rattle.fingerprint.proofs.head.read_fields.Goals.{After-from_be_bytes-length}

count : (c : After-from_be_bytes-length) → number 256 (take 3 (drop 1 c.args.hello.now)) ≡ c.from_be_bytes-length.result
count c = omega (arith, number-three c.args.hello.now c.if-n-lt4.false, c.from_be_bytes-length.ensures)

pub returns-then-n-gt16384 : goal.returns-then-n-gt16384
returns-then-n-gt16384 c = read-long c.args.hello.now c.if-n-gt16384.true

pub returns-then-n-eq0 : goal.returns-then-n-eq0
returns-then-n-eq0 c = read-empty c.args.hello.now c.if-n-gt16384.false c.if-n-eq0.true

pub returns-then-hello-ne1 : goal.returns-then-hello-ne1
returns-then-hello-ne1 c = read-type c.args.hello.now c.if-n-gt16384.false (search rules) c.if-hello-ne1.true

pub returns-then-n-lt4 : goal.returns-then-n-lt4
returns-then-n-lt4 c = read-few c.args.hello.now c.if-n-gt16384.false (search rules) c.if-hello-ne1.false c.if-n-lt4.true

pub returns-then-length-n : goal.returns-then-length-n
returns-then-length-n c =
    read-other c.args.hello.now c.if-n-gt16384.false (search rules) c.if-hello-ne1.false c.if-n-lt4.false c.from_be_bytes-length.result (count (goal.at.returns-then-length-n c).After-from_be_bytes-length) c.if-length-n.true

pub after_length-requires : goal.after_length-requires
after_length-requires c =
    record {
      is = read-fields c.args.hello.now c.if-n-gt16384.false (search rules) c.if-hello-ne1.false c.if-n-lt4.false c.from_be_bytes-length.result (count (goal.at.after_length-requires c).After-from_be_bytes-length) c.if-length-n.false;
      short = c.if-n-gt16384.false;
    }
