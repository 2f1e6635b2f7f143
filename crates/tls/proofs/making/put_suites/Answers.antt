-- The suites, and the compression method to the part after them. Assumes nothing.
use Prim.Native.Nat.{ℕ, ◌+◌, ◌*◌, ◌≤◌}
use mathlib.Core.List.{List, [], ◌∷◌, map}
use lib.ListN.{length}
use Rattle.std.proofs.lemmas.List.{map-id}
use Rattle.wire.specs.Front.{Put}
use Rattle.wire.specs.Vectors.{vector, words}
use Rattle.wire.proofs.VectorLaws.{length-vector, length-words}
use Rattle.wire.proofs.Writing.{Writing, first-written, place-within, last-room, joined}
use Rattle.tls.proofs.HelloLaws.{closing, length-closing}
use native.Mathlib.Omega.{arith}
use Rattle.tls.proofs.making.put_suites.Goals as goal

-- numbers that stand for themselves, as `put_word_vector` has them
plain : (suites : List ℕ) {old new : List ℕ} {n : ℕ} → Put (vector 2 (words (map (λ v. v) suites))) n old new → Put (vector 2 (words suites)) n old new
plain suites p = rw map-id at p

-- the suites stand
written : (suites : List ℕ) {old new : List ℕ} {n : ℕ} → 4 + 2 * length suites ≤ length old → Put (vector 2 (words (map (λ v. v) suites))) n old new
    → Writing (closing suites) (vector 1 (0 ∷ [])) old new n
written suites {old} h p =
    let room : length (closing suites) ≤ length old = omega (arith, length-closing suites, h) in
    first-written (vector 2 (words suites)) (vector 1 (0 ∷ [])) room (plain suites p)

pub slice_bounds-put_vector-count : goal.slice_bounds-put_vector-count
slice_bounds-put_vector-count c = place-within (written c.args.suites.now c.requires.0 c.put_word_vector-a.ensures)

pub slice_bounds-put_vector-start : goal.slice_bounds-put_vector-start
slice_bounds-put_vector-start c = place-within (written c.args.suites.now c.requires.0 c.put_word_vector-a.ensures)

pub put_vector-requires : goal.put_vector-requires
put_vector-requires c =
    (omega arith, last-room (vector 1 (0 ∷ [])) (written c.args.suites.now c.requires.0 c.put_word_vector-a.ensures) (length-vector 1 (0 ∷ [])), omega arith)

pub overflow_add-result : goal.overflow_add-result
overflow_add-result c =
    let suites = c.args.suites.now in
    let first = plain c.args.suites.now c.put_word_vector-a.ensures in
    omega (arith, first.count, length-vector 2 (words suites), length-words suites, c.requires.1, c.put_vector.ensures.count, length-vector 1 (0 ∷ []))

pub returns : goal.returns
returns c = joined (plain c.args.suites.now c.put_word_vector-a.ensures) c.put_vector.ensures
