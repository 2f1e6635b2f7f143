-- The count of bytes, and the numbers to the part after it. Assumes nothing.
use Prim.Native.Nat.{◌*◌}
use mathlib.Core.Path.{◌≡◌}
use mathlib.Core.List.{map}
use lib.ListN.{length, length-map}
use Rattle.wire.specs.Vectors.{vector, words}
use Rattle.wire.proofs.NumberLaws.{length_digits}
use Rattle.wire.proofs.VectorLaws.{length-words}
use Rattle.wire.proofs.Writing.{filled, joined}
use native.Mathlib.Omega.{arith}
use Rattle.tls_extensions.proofs.put_word_vector.Goals as goal

pub overflow_add-result : goal.overflow_add-result
overflow_add-result g c =
    let values = map g.T.Word.word c.args.values.now in
    omega (arith, c.put_words.ensures.count, length-words values, length-map c.args.values.now g.T.Word.word)

pub returns : goal.returns
unfolding vector
returns g c =
    let values = map g.T.Word.word c.args.values.now in
    let long : 2 * length c.args.values.now ≡ length (words values) = omega (arith, length-words values, length-map c.args.values.now g.T.Word.word) in
    let count = rw long at c.put_be.ensures in
    joined (filled (length_digits 256 g.row.N (length (words values))) count) c.put_words.ensures
