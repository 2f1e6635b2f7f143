-- The answer of `size` as one number. Assumes nothing.
use Rattle.std.proofs.Common.{ap, ◌∙◌}
use Rattle.wire.specs.Answer.{coded}
use Rattle.compare_calls.proofs.compare_varint_size.Goals as goal

pub returns : goal.returns
returns c = c.coded.ensures ∙ ap coded c.size.ensures.is
