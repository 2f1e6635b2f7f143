-- Each branch gives the number of the definition. Assumes nothing.
use mathlib.Core.Path.{◌≡◌}
use mathlib.Core.Logic.{◌≢◌}
use native.Mathlib.Omega.{arith}
use Rattle.profiles.specs.Sizes.{key_share_size}
use Rattle.tls_extensions.proofs.key_share_size.Goals as goal

pub returns-in-SECP256R1 : goal.returns-in-SECP256R1
unfolding key_share_size
returns-in-SECP256R1 c =
    let e : c.args.group.0 ≡ 23 = omega arith in
    (rw e, omega arith)

pub returns-in-PQ_HYBRID_GROUP : goal.returns-in-PQ_HYBRID_GROUP
unfolding key_share_size
returns-in-PQ_HYBRID_GROUP c =
    let e : c.args.group.0 ≡ 4588 = omega arith in
    (rw e, omega arith)

pub returns-in_default : goal.returns-in_default
unfolding key_share_size
returns-in_default c =
    let a : c.args.group.0 ≢ 23 = omega arith in
    let b : c.args.group.0 ≢ 4588 = omega arith in
    (grind (arith, a, b), omega arith)
