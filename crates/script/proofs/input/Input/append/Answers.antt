-- `append` adds bytes where they fit; the part of the line after those it has is lent and comes back. Assumes nothing.
use Rattle.std.proofs.Common.{◌-◌, length, refl, arith, le-leb}
use Rattle.wire.proofs.FrontLaws.{lent-front-at}
use Rattle.script.proofs.input.Input.append.Goals as goal

pub returns : goal.returns
returns c =
    let args = c.args in
    let if1 = c.if-line-length in
    let put-bytes = c.put_bytes-n in
    let pre = c.requires in
    let n = length args.part.now in
    let room = length args.line.now - args.self.length in
    record {
      is = rw (le-leb n room if1.false, put-bytes.ensures.count);
      output = rw (le-leb n room if1.false) (lent-front-at args.self.length _ args.part.now args.line.now put-bytes.new.out refl put-bytes.ensures.output);
      within = omega (arith, put-bytes.ensures.count, pre);
    }
