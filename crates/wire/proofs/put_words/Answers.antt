-- The loop keeps `Writing`: the numbers before place i stand in the output. Assumes nothing.
use Prim.Native.Nat.{◌+◌, ◌*◌, ◌<◌}
use mathlib.Core.Path.{◌≡◌, refl, sym, ap, ◌∙◌}
use mathlib.Core.List.{[], map}
use lib.ListN.{length, drop, get_or, get_or-map, length-map}
use lib.Seq.{drop-length}
use native.Mathlib.Omega.{arith}
use Rattle.wire.specs.Numbers.{digits}
use Rattle.wire.specs.Vectors.{words}
use Rattle.wire.proofs.ListLaws.{get_or-any-default}
use Rattle.wire.proofs.NumberLaws.{length_digits}
use Rattle.wire.proofs.VectorLaws.{length-words, words-from}
use Rattle.wire.proofs.Writing.{begins, rest-is, filled, writes, finished}
use Rattle.wire.proofs.put_words.Goals as goal

pub loop-i-init : goal.loop-i-init
loop-i-init g c =
    let numbers = map g.T.Word.word c.args.values.now in
    let long : length numbers ≡ length c.args.values.now = length-map c.args.values.now g.T.Word.word in
    begins (words numbers) c.args.out.now (omega (arith, length-words numbers, long, c.requires))

pub loop-i-preserved : goal.loop-i-preserved
loop-i-preserved g c =
    let values = c.args.values.now in
    let i = c.loop-i.i in
    let v = c.index-values-i.result in
    let numbers = map g.T.Word.word values in
    let inside : i < length numbers = rw (length-map values g.T.Word.word) c.loop-i-test.true in
    let number : get_or numbers i 0 ≡ c.word.result
    = get_or-any-default numbers i 0 (g.T.Word.word v) inside
    ∙ get_or-map g.T.Word.word values i v ∙ ap g.T.Word.word (sym c.index-values-i.is) ∙ sym c.word.ensures in
    let next = rest-is c.loop-i.invariant (rw number at (words-from numbers i inside)) in
    let z : 2 * i + 2 ≡ 2 * (i + 1) = omega arith in
    rw z at (writes (digits 256 2 c.word.result) _ next (filled (length_digits 256 2 c.word.result) c.w16.ensures))

pub returns : goal.returns
unfolding words
returns g c =
    let values = c.args.values.now in
    let all : c.loop-i.i ≡ length values = omega (arith, c.loop-i-test.false, c.loop-i.auto.i-end) in
    let numbers = map g.T.Word.word values in
    let none : words (drop c.loop-i.i numbers) ≡ [] = rw (all, ← length-map values g.T.Word.word, drop-length numbers) refl in
    rw all at (finished (rest-is c.loop-i.invariant none))
