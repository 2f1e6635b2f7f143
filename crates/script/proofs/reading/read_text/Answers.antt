-- `script::reading::read_text` meets its contract: each test is one of the definition's, and the part between the quotes is what `read_given` copies. Assumes nothing.
use Rattle.std.proofs.Common.{ℕ, ◌-◌, List, length, take, drop, sym, ap, ◌∙◌}
use Rattle.script.specs.Scan.{all}
use Rattle.script.specs.Piece.{is_plain, bytes, text_of}
use Rattle.script.proofs.PieceLaws.{text-short, text-open, text-odd, text-is, inner-part, read_as, read-malformed}
use Rattle.script.proofs.reading.read_text.Goals as goal

pub returns-then-n-lt2 : goal.returns-then-n-lt2
returns-then-n-lt2 c =
    let start = c in
    read-malformed (text_of start.args.text.now) start.args.out.now (text-short start.args.text.now c.if-n-lt2.true)

pub returns-then-text-close-ne34 : goal.returns-then-text-close-ne34
returns-then-text-close-ne34 c =
    let start = c in
    read-malformed (text_of start.args.text.now) start.args.out.now
    (text-open start.args.text.now c.if-n-lt2.false c.if-text-close-ne34.true)

pub returns-then-all_plain : goal.returns-then-all_plain
returns-then-all_plain c =
    let start = c in
    let s = start.args.text.now in
    read_as (bytes (take (length s - 1 - 1) (drop 1 s))) (text_of s) c.read_given.result start.args.out.now
    c.read_given.new.out
    (ap bytes (inner-part s) ∙ text-is s c.if-n-lt2.false
    c.if-text-close-ne34.false
    (ap (λ (x : List ℕ). all is_plain x) (sym (inner-part s)) ∙ sym c.all_plain.ensures
    ∙ c.if-all_plain.true))
    c.read_given.ensures

pub returns-else-all_plain : goal.returns-else-all_plain
returns-else-all_plain c =
    let start = c in
    let s = start.args.text.now in
    read-malformed (text_of s) start.args.out.now
    (text-odd s c.if-n-lt2.false c.if-text-close-ne34.false
    (ap (λ (x : List ℕ). all is_plain x) (sym (inner-part s)) ∙ sym c.all_plain.ensures ∙ c.if-all_plain.false))
