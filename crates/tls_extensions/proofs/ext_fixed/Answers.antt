-- The body that is looked up, as an extension; or nothing. Assumes nothing.
use mathlib.Core.Path.{refl}
use native.Mathlib.Omega.{arith}
use Rattle.wire.proofs.FrontLaws.{front-none}
use Rattle.tls_extensions.proofs.LengthLaws.{length-extension}
use Rattle.tls_extensions.proofs.ext_fixed.Goals as goal

pub put_extension-requires : goal.put_extension-requires
put_extension-requires c =
    let is-fixed = c.in-Some.ensures in
    let room = rw is-fixed.0 at c.requires in
    (omega (arith, room, length-extension c.args.t.0 c.in-Some.body.now), is-fixed.1)

pub returns-in-None : goal.returns-in-None
returns-in-None c = rw c.in-None.ensures (record { count = refl; output = front-none c.args.out.now })
