-- Two numbers, the second to the part after the first. Assumes nothing.
use mathlib.Core.Path.{refl}
use Rattle.wire.specs.Numbers.{digits}
use Rattle.wire.proofs.NumberLaws.{length_digits}
use Rattle.wire.proofs.FrontLaws.{lent-front}
use Rattle.tls_extensions.proofs.put_head.Goals as goal

pub returns : goal.returns
returns c =
    let args = c.args in
    let w16 = c.w16 in
    let w162 = c.w16-2 in
    lent-front (digits 256 2 args.t.0) (digits 256 2 args.n) args.out.now w16.new.out w162.new.out 2 _ (length_digits 256 2 args.t.0) w16.ensures refl w162.ensures
