-- `script::reading::read_piece` meets its contract: the arms come in the order of the definition's table. Assumes nothing.
use Rattle.std.proofs.Common.{◌≡◌, ℕ, ◌<◌, false, [], length, get_or, sym, refl, ap, ◌∙◌, zero-le, arith}
use Rattle.std.specs.Prelude.{Ok}
use Rattle.wire.proofs.FrontLaws.{front-none}
use Rattle.script.specs.Scan.{is_only, distance, star, dash, underscore, quote, at}
use Rattle.script.specs.Piece.{bytes, text_of, run_of, hex_of, piece_of}
use Rattle.script.specs.declared.reading.Piece.TheVariants as piece
use Rattle.script.proofs.ScanLaws.{only-other, place-some, place-none}
use Rattle.script.proofs.PieceLaws.{piece-dash, piece-last, piece-file, piece-text, piece-run, piece-hex, find_first, read_as, read-file, read-bytes}
use Rattle.script.proofs.reading.read_piece.Goals as goal
use Rattle.script.proofs.reading.read_piece.Goals.{In_default, then-text-lt2+in-34-1, else-text-lt2+in-34-1, in_default-via-then-text-lt1, in_default-via-else-text-lt1+then-text-lt2+in_default-1, in_default-via-else-text-lt1+else-text-lt2+in_default-1}

-- what the last arm knows of the text
no-dash : (c : In_default) → is_only dash c.args.text.now ≡ false
no-dash c =
    only-other dash c.args.text.now (elim c.in_default.branch [
      | in_default-via-then-text-lt1 w ↦ search arith
      | in_default-via-else-text-lt1+then-text-lt2+in_default-1 w ↦ search arith
      | in_default-via-else-text-lt1+else-text-lt2+in_default-1 w ↦ search arith
    ])

no-underscore : (c : In_default) → is_only underscore c.args.text.now ≡ false
no-underscore c =
    only-other underscore c.args.text.now (elim c.in_default.branch [
      | in_default-via-then-text-lt1 w ↦ search arith
      | in_default-via-else-text-lt1+then-text-lt2+in_default-1 w ↦ search arith
      | in_default-via-else-text-lt1+else-text-lt2+in_default-1 w ↦ search arith
    ])

no-at : (c : In_default) → 0 < length c.args.text.now → get_or c.args.text.now 0 0 ≡ at → ⊥
no-at c = elim c.in_default.branch [
  | in_default-via-then-text-lt1 w ↦ search arith
  | in_default-via-else-text-lt1+then-text-lt2+in_default-1 w ↦ search arith
  | in_default-via-else-text-lt1+else-text-lt2+in_default-1 w ↦ search arith
]

no-quote : (c : In_default) → 0 < length c.args.text.now → get_or c.args.text.now 0 0 ≡ quote → ⊥
no-quote c = elim c.in_default.branch [
  | in_default-via-then-text-lt1 w ↦ search arith
  | in_default-via-else-text-lt1+then-text-lt2+in_default-1 w ↦ search arith
  | in_default-via-else-text-lt1+else-text-lt2+in_default-1 w ↦ search arith
]

pub returns-in-45 : goal.returns-in-45
returns-in-45 c =
    let s = c.args.text.now in
    let old = c.args.out.now in
    read_as (bytes []) (piece_of s c.args.last.now) (Ok (piece.Bytes 0)) old old (piece-dash s c.args.last.now (omega arith) (search arith))
    (read-bytes [] 0 old old zero-le refl (front-none old))

pub returns-in-95 : goal.returns-in-95
returns-in-95 c =
    let s = c.args.text.now in
    let last = c.args.last.now in
    read_as (bytes last) (piece_of s last) c.read_given.result c.args.out.now c.read_given.new.out (piece-last s last (omega arith) (search arith)) c.read_given.ensures

pub returns-in-64 : goal.returns-in-64
returns-in-64 c = read-file (piece_of c.args.text.now c.args.last.now) c.args.out.now (piece-file c.args.text.now c.args.last.now (omega arith) (search arith))

pub returns-in-64-2 : goal.returns-in-64-2
returns-in-64-2 c = read-file (piece_of c.args.text.now c.args.last.now) c.args.out.now (piece-file c.args.text.now c.args.last.now (omega arith) (search arith))

pub returns-in-34 : goal.returns-in-34
returns-in-34 c =
    let s = c.args.text.now in
    let last = c.args.last.now in
    let q : (0 < length s) × (get_or s 0 0 ≡ quote) = elim c.in-34-1.branch [ then-text-lt2+in-34-1 w ↦ search arith | else-text-lt2+in-34-1 w ↦ search arith ] in
    read_as (text_of s) (piece_of s last) c.read_text.result c.args.out.now c.read_text.new.out (piece-text s last q.0 q.1) c.read_text.ensures

pub returns-in-Some : goal.returns-in-Some
returns-in-Some c =
    let s = c.args.text.now in
    let last = c.args.last.now in
    let d = (goal.at.returns-in-Some c).In_default in
    let p = place-some s 0 star c.in-Some.star (sym c.in-Some.is ∙ c.find.ensures.is) in
    let e : c.in-Some.star ≡ distance star s = p.0 ∙ find_first s star in
    read_as (run_of s c.in-Some.star) (piece_of s last) c.read_run.result c.args.out.now c.read_run.new.out
    (ap (λ (k : ℕ). run_of s k) e ∙ piece-run s last (no-dash d) (no-underscore d) (no-at d) (no-quote d) (omega (arith, e, p.1)))
    c.read_run.ensures

pub returns-in-None : goal.returns-in-None
returns-in-None c =
    let s = c.args.text.now in
    let last = c.args.last.now in
    let d = (goal.at.returns-in-None c).In_default in
    let p = place-none s 0 star (sym c.in-None.is ∙ c.find.ensures.is) in
    read_as (hex_of s) (piece_of s last) c.read_hex.result c.args.out.now c.read_hex.new.out
    (piece-hex s last (no-dash d) (no-underscore d) (no-at d) (no-quote d) (omega (arith, find_first s star, p)))
    c.read_hex.ensures
