-- `script::reading::read_times` meets its contract: each test is one of the definition's, and the library fills the front; the count is compared with the room before. Assumes nothing.
use Rattle.std.proofs.Common.{◌≡◌, ℕ, length-take-le, get_or, replicate, sym, ap, ◌∙◌, arith}
use lib.ListN.{length-replicate}
use Rattle.wire.proofs.FrontLaws.{front-replicate}
use Rattle.script.specs.Hex.{hex_byte}
use Rattle.script.specs.Piece.{bytes, times_of}
use Rattle.std.specs.Prelude.{Ok, Err}
use Rattle.script.specs.declared.reading.NoPiece.TheVariants as no
use Rattle.script.specs.declared.reading.Piece.TheVariants as piece
use Rattle.script.proofs.PieceLaws.{times-length, times-other, times-are, read_as, read-malformed, read-bytes, read-too-long}
use Rattle.script.proofs.reading.read_times.Goals as goal

pub returns-then-digits-ne2 : goal.returns-then-digits-ne2
returns-then-digits-ne2 c =
    let start = c in
    read-malformed (times_of start.args.n start.args.digits.now) start.args.out.now
    (times-length start.args.n start.args.digits.now c.if-digits-ne2.true)

pub returns-then-out-times : goal.returns-then-out-times
returns-then-out-times c =
    let start = c in
    let d = start.args.digits.now in
    let t = replicate start.args.n (hex_byte (get_or d 0 0) (get_or d 1 0)) in
    read_as (bytes t) (times_of start.args.n d) (Err no.TooLong) start.args.out.now start.args.out.now
    (times-are start.args.n d c.if-digits-ne2.false
    (sym c.all_hex.ensures ∙ c.if-all_hex.true))
    (read-too-long t start.args.out.now
    (omega (arith, length-replicate start.args.n (hex_byte (get_or d 0 0) (get_or d 1 0)), c.if-out-times.true)))

pub returns-else-out-times : goal.returns-else-out-times
returns-else-out-times c =
    let d = c.args.digits.now in
    let n = c.args.n in
    let old = c.args.out.now in
    let b = hex_byte (get_or d 0 0) (get_or d 1 0) in
    let filled : c.fill.new.self ≡ replicate n b =
    c.fill.ensures.after (λ y e. e) ∙ ap (λ (k : ℕ). replicate k c.hex_byte.result) (length-take-le n old c.if-out-times.false)
    ∙ ap (λ (x : ℕ). replicate n x) c.hex_byte.ensures in
    read_as (bytes (replicate n b)) (times_of n d) (Ok (piece.Bytes n)) old _
    (times-are n d c.if-digits-ne2.false (sym c.all_hex.ensures ∙ c.if-all_hex.true))
    (read-bytes (replicate n b) n old _ (omega (arith, length-replicate n b, c.if-out-times.false)) (sym (length-replicate n b))
    (rw filled (front-replicate n b old)))

pub returns-else-all_hex : goal.returns-else-all_hex
returns-else-all_hex c =
    let start = c in
    read-malformed (times_of start.args.n start.args.digits.now) start.args.out.now
    (times-other start.args.n start.args.digits.now (sym c.all_hex.ensures ∙ c.if-all_hex.false))
