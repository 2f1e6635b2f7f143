-- The bytes are the next eight of the tape. Assumes nothing.
use mathlib.Core.Path.{◌≡◌, sym, ap, ◌∙◌}
use native.Mathlib.Omega.{arith}
use lib.ListN.{length, take, drop}
use Rattle.std.proofs.Common.{rules}
use Rattle.tape.proofs.DrawLaws.{eight-bytes, rand_bytes-part}
use Rattle.tape.specs.Tape.{lowest_first, next_u64}
use Rattle.tape.proofs.next_u64.Goals as goal

pub returns : goal.returns
unfolding next_u64
returns c =
    let args = c.args in
    let bytes : c.unwrap.result.now ≡ take 8 (drop args.at args.tape.now) = search rules in
    let long : length c.unwrap.result.now ≡ 8 = search rules in (
      c.from_le_bytes.ensures
          ∙ eight-bytes c.unwrap.result.now long
          ∙ ap lowest_first (bytes ∙ sym (rand_bytes-part 8 args.tape.now args.at c.requires)),
      omega arith,
    )
