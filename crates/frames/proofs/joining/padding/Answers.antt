-- The blocks that passed are bytes 00, and so are the bytes after them up to the first other. Assumes nothing.
use Prim.Native.Nat.{◌+◌, ◌*◌}
use mathlib.Core.Path.{◌≡◌, ap, ◌∙◌}
use native.Mathlib.Omega.{arith}
use lib.ListN.{length}
use borrow.Author.Rules.{rules}
use Rattle.std.specs.Slice.Iter.{chunks_exact_rest, chunks_exact_size}
use Rattle.wire.proofs.ListLaws.{part_to_end}
use Rattle.frames.specs.Buffers.{Padding}
use Rattle.frames.proofs.PaddingLaws.{to-other, padding_none}
use Rattle.frames.proofs.BlockLaws.{zero_blocks}
use Rattle.frames.proofs.joining.padding.Goals as goal

pub returns : goal.returns
returns c =
    let bs = c.args.input.now in
    let ran = c.count-blocks.ensures.ran in
    let blocks = ran.0 in
    let source = c.take_while.ensures.source in
    let size = ap chunks_exact_size source ∙ c.chunks_exact.ensures.size in
    let rest = ap chunks_exact_rest source ∙ c.chunks_exact.ensures.rest in
    let all : Padding (0 + 16 * length blocks) bs =
    zero_blocks _ _ (λ x b q k. search rules) bs blocks c.take_while.result _ 0 ran.1.1.1 c.take_while.ensures.closure c.take_while.ensures.done size rest (padding_none bs) in
    let n : 0 + 16 * length blocks ≡ 16 * c.count-blocks.result = omega (arith, ran.2) in
    let found = rw part_to_end at c.first_other.ensures in
    to-other (16 * c.count-blocks.result) bs c.unwrap_or.result (rw n at all) (rw found at c.unwrap_or.ensures)
