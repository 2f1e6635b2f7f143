-- `script_writing::names::put_quoted` meets its contract: the quote, the name and the quote are written one after the other. Assumes nothing.
use Prim.Native.Nat.{ℕ, ◌+◌, ◌-◌}
use mathlib.Core.Path.{◌≡◌, refl}
use mathlib.Core.List.{List, [], ◌∷◌}
use native.Mathlib.Omega.{arith}
use lib.ListN.{length, set}
use borrow.Rule.Slice.PartMut.{put_mid}
use Rattle.wire.specs.Front.{front}
use Rattle.wire.proofs.FrontLaws.{front-none}
use Rattle.script.specs.Scan.{quote}
use Rattle.script_writing.specs.Names.{quoted}
use Rattle.script_writing.proofs.ShownLaws.{written, not_written, stored-after, stored-lent}
use Rattle.script_writing.proofs.NameLaws.{length-quoted}
use Rattle.script_writing.proofs.names.put_quoted.Goals as goal

pub returns-then-out-lt2 : goal.returns-then-out-lt2
returns-then-out-lt2 c =
    let args = c.args in
    not_written (quoted args.name.now) args.out.now (omega (arith, length-quoted args.name.now))

pub returns-then-out-n : goal.returns-then-out-n
returns-then-out-n c =
    let args = c.args in
    not_written (quoted args.name.now) args.out.now (omega (arith, length-quoted args.name.now))

-- the first quote and the name stand
abbrev opened : List ℕ → List ℕ → List ℕ
opened old name = put_mid 1 (length (set old 0 quote) - 1) (set old 0 quote) name

pub returns : goal.returns
unfolding quoted
returns c =
    let s = c.args.name.now in
    let old = c.args.out.now in
    let name = c.put_bytes in
    let long = length-quoted s in
    let fits = c.if-out-n.false in
    let stands : opened old name.new.out ≡ front (quote ∷ s) old = stored-lent old name.new.out quote 0 [] s old refl (omega arith) (front-none old) name.ensures.output in
    written (quoted s) (length s + 2) old _ (omega (arith, long, fits)) (omega (arith, long))
    (stored-after (quote ∷ s) old (opened old name.new.out) quote (length s + 1) (omega arith) (omega (arith, fits)) stands)
