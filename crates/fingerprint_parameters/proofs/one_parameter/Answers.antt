use Rattle.fingerprint_parameters.proofs.ShortParameter.{short-found}
use Rattle.fingerprint_parameters.proofs.one_parameter.Goals as goal

pub returns-then-id-length : goal.returns-then-id-length
returns-then-id-length c =
    let bs = c.args.rest.now in
    rw c.short_parameter.ensures (short-found bs c.if-rest-lt2.false c.if-id-length.true)
