-- `put_be` copies the last of the eight bytes over the front. Assumes nothing.
use mathlib.Core.Path.{◌≡◌, ap, ◌∙◌}
use mathlib.Core.List.{◌++◌}
use Prim.Native.Nat.{◌-◌}
use lib.ListN.{drop, take}
use Rattle.std.specs.Int.{to_be_bytes, w64}
use Rattle.wire.specs.Numbers.{digits}
use Rattle.wire.specs.Front.{front}
use Rattle.wire.proofs.ListLaws.{part_to_end}
use Rattle.wire.proofs.NumberLaws.{length_digits, low-bytes}
use Rattle.wire.proofs.put_be.Goals as goal

pub returns : goal.returns
unfolding front
returns g c =
    let bytes = to_be_bytes w64 c.args.v in
    let low : take (8 - (8 - g.row.N)) (drop (8 - g.row.N) bytes) ≡ digits 256 g.row.N c.args.v
    = part_to_end bytes (8 - g.row.N) ∙ low-bytes g.row.N c.args.v c.requires.0 in
    rw (c.copy_from_slice.ensures.after, c.to_be_bytes.ensures, length_digits 256 g.row.N c.args.v) (ap (λ l. l ++ drop g.row.N c.args.out.now) low)
