-- `script::reading::read_hex` meets its contract: each test is one of the definition's, and `put_pairs` writes the bytes. Assumes nothing.
use Rattle.std.proofs.Common.{◌≡◌, ◌/◌, length, sym, ◌∙◌, arith}
use Rattle.script.specs.Hex.{pairs}
use Rattle.script.specs.Piece.{bytes, malformed, hex_of}
use Rattle.std.specs.Prelude.{Ok, Err}
use Rattle.script.specs.declared.reading.NoPiece.TheVariants as no
use Rattle.script.specs.declared.reading.Piece.TheVariants as piece
use Rattle.script.proofs.HexLaws.{length_pairs}
use Rattle.script.proofs.PieceLaws.{hex-none, hex-odd, hex-other, hex-bytes, read_as, read-malformed, read-bytes, read-too-long}
use Rattle.script.proofs.reading.read_hex.Goals as goal
use Rattle.script.proofs.reading.read_hex.Goals.{then-n-eq0-via-then-n-eq0, then-n-eq0-via-else-n-eq0+then-n-ne0}

pub returns-then-n-eq0 : goal.returns-then-n-eq0
returns-then-n-eq0 c =
    let s = c.args.text.now in
    let odd : malformed ≡ hex_of s = elim c.then-n-eq0.branch [
      | then-n-eq0-via-then-n-eq0 w ↦ hex-none s w.if-n-eq0.true
      | then-n-eq0-via-else-n-eq0+then-n-ne0 w ↦ hex-odd s w.if-n-ne0.true
    ] in
    read-malformed (hex_of s) c.args.out.now odd

pub returns-then-out-n : goal.returns-then-out-n
returns-then-out-n c =
    let start = c in
    let s = start.args.text.now in
    read_as (bytes (pairs s)) (hex_of s) (Err no.TooLong) start.args.out.now start.args.out.now
    (hex-bytes s (omega (arith, c.if-n-eq0.false)) c.if-n-ne0.false
    (sym c.all_hex.ensures ∙ c.if-all_hex.true))
    (read-too-long (pairs s) start.args.out.now (omega (arith, length_pairs s, c.if-out-n.true)))

pub put_pairs-requires : goal.put_pairs-requires
put_pairs-requires c =
    let start = c in (
      sym c.all_hex.ensures ∙ c.if-all_hex.true,
      omega
          (arith, length_pairs start.args.text.now, c.if-out-n.false),
    )

pub returns-else-out-n : goal.returns-else-out-n
returns-else-out-n c =
    let start = c in
    let s = start.args.text.now in
    read_as (bytes (pairs s)) (hex_of s) (Ok (piece.Bytes (length s / 2))) start.args.out.now c.put_pairs.new.out
    (hex-bytes s (omega (arith, c.if-n-eq0.false))
    c.if-n-ne0.false
    (sym c.all_hex.ensures ∙ c.if-all_hex.true))
    (read-bytes (pairs s) (length s / 2) start.args.out.now c.put_pairs.new.out
    (omega (arith, length_pairs s, c.if-out-n.false)) (sym (length_pairs s))
    c.put_pairs.ensures)

pub returns-else-all_hex : goal.returns-else-all_hex
returns-else-all_hex c =
    let start = c in
    read-malformed (hex_of start.args.text.now) start.args.out.now
    (hex-other start.args.text.now (sym c.all_hex.ensures ∙ c.if-all_hex.false))
