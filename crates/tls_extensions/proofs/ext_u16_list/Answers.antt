-- The head of the extension, and the list to the part after it. Assumes nothing.
use Prim.Native.Nat.{◌+◌, ◌*◌}
use mathlib.Core.Path.{◌≡◌}
use mathlib.Core.List.{map}
use lib.ListN.{length, length-map}
use Rattle.wire.specs.Vectors.{vector, words}
use Rattle.wire.proofs.VectorLaws.{length-vector, length-words}
use Rattle.wire.proofs.Writing.{filled, joined, put_as}
use Rattle.tls_extensions.proofs.HeadLaws.{length-head, extension-is}
use native.Mathlib.Omega.{arith}
use Rattle.tls_extensions.proofs.ext_u16_list.Goals as goal

pub overflow_add-result : goal.overflow_add-result
overflow_add-result g c =
    let values = map g.T.Word.word c.args.values.now in
    omega (arith, c.put_word_vector.ensures.count, length-vector g.row.N (words values), length-words values, length-map c.args.values.now g.T.Word.word)

pub returns : goal.returns
returns g c =
    let t = c.args.t.0 in
    let values = map g.T.Word.word c.args.values.now in
    let body = vector g.row.N (words values) in
    let long : g.row.N + 2 * length c.args.values.now ≡ length body = omega (arith, length-vector g.row.N (words values), length-words values, length-map c.args.values.now g.T.Word.word) in
    let head = filled (length-head t (length body)) (rw long at c.put_head.ensures) in
    put_as (extension-is t body) (joined head c.put_word_vector.ensures)
